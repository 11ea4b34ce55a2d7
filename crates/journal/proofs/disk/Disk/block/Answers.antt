-- `journal::Disk::block` meets its contract: of the blocks that the disk is cut into, the one at that place.
use borrow.Author.Rules.{rules}
use Rattle.journal.proofs.OneRecord.{chunk_is}
use Rattle.journal.proofs.disk.Disk.block.Goals as goal

pub returns : goal.returns
returns c = chunk_is _ _ _ _ _ _ c.as_chunks.ensures.front (search rules) c.disk_block.ensures.1 c.disk_block.ensures.0
