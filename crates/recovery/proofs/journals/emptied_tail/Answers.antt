-- `recovery::journals::emptied_tail` meets its contract.
use borrow.Author.Rules.{rules}
use Rattle.recovery.proofs.JournalLaws.{after_none, after_some}
use Rattle.recovery.proofs.journals.emptied_tail.Goals as goal

pub returns-then-s-c : goal.returns-then-s-c
returns-then-s-c c = search (rules, after_none)

pub returns : goal.returns
returns c = search (rules, after_some)
