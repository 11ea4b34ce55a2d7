-- `valid::Round::name_met` meets its contract: the name is the one that the commit lists.
use borrow.Author.Rules.{rules}
use Rattle.valid.proofs.Names.{name_is}
use Rattle.valid.proofs.shrinking.Round.name_met.Goals as goal

pub returns : goal.returns
returns c = search (rules, name_is)
