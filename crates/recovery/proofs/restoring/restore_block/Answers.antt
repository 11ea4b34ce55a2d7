-- `recovery::restoring::restore_block` meets its contract: what was written to the block is a store.
use borrow.Author.Rules.{rules}
use Rattle.recovery.proofs.RecoverLaws.{home_stored}
use Rattle.recovery.proofs.restoring.restore_block.Goals as goal

pub returns : goal.returns
returns c = search (rules, home_stored)
