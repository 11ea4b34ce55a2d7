-- `recovery::journals::newest_block` meets its contract.
use borrow.Author.Rules.{rules}
use Rattle.recovery.proofs.JournalLaws.{newest_bytes}
use Rattle.recovery.proofs.journals.newest_block.Goals as goal

pub returns : goal.returns
returns c = search (rules, newest_bytes)
