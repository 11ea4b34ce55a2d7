-- `master_block::store_master` meets its contract: what its writer made of block 0 is a store.
use borrow.Author.Rules.{rules}
use Rattle.master_block.proofs.Writers.{first_stored}
use Rattle.master_block.proofs.store_master.Goals as goal

pub returns : goal.returns
returns c = search (rules, first_stored)
