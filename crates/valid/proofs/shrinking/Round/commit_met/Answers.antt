-- `valid::Round::commit_met` meets its contract: by the layout.
use borrow.Author.Rules.{rules}
use Rattle.valid.proofs.Names.{list_is, numbers_are}
use Rattle.valid.proofs.shrinking.Round.commit_met.Goals as goal

pub returns-in-Lists : goal.returns-in-Lists
returns-in-Lists c = search (rules, list_is)

pub returns-in-Numbers : goal.returns-in-Numbers
returns-in-Numbers c = search (rules, numbers_are)
