-- `rules::room::takes_past` meets its contract.
use Rattle.rules.proofs.RuleLaws.{and_not, and_test}
use borrow.Author.Rules.{rules}
use Rattle.rules.proofs.room.takes_past.Goals as goal

pub returns-then-not-takes_block : goal.returns-then-not-takes_block
returns-then-not-takes_block c = search (rules, and_not)

pub returns : goal.returns
returns c = search (rules, and_test)
