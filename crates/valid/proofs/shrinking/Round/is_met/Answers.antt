-- `valid::Round::is_met` meets its contract: each return is one case of `count_met`.
use borrow.Author.Rules.{rules}
use Rattle.valid.proofs.Names.{met_absent, met_below, met_no_core, met_here}
use Rattle.valid.proofs.shrinking.Round.is_met.Goals as goal

pub returns-then-c-ge8 : goal.returns-then-c-ge8
returns-then-c-ge8 c = search (rules, met_absent)

pub returns-then-k-n : goal.returns-then-k-n
returns-then-k-n c = search (rules, met_below)

pub returns-then-self-c : goal.returns-then-self-c
returns-then-self-c c = search (rules, met_no_core)

pub returns : goal.returns
returns c = search (rules, met_here)
