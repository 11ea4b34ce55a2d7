-- `valid::Round::number_met` meets its contract: each return is one condition of `number_met`.
use borrow.Author.Rules.{rules}
use Rattle.valid.proofs.Names.{number_none, number_is}
use Rattle.valid.proofs.shrinking.Round.number_met.Goals as goal

pub returns-then-k-eq0 : goal.returns-then-k-eq0
returns-then-k-eq0 c = search (rules, number_none)

pub returns-else-k-eq0 : goal.returns-else-k-eq0
returns-else-k-eq0 c = search (rules, number_is)
