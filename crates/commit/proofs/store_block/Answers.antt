-- `commit::store_block` meets its contract: the part is as long as the block that it becomes.
use Rattle.std.proofs.Common.{rules}
use Rattle.layout.proofs.DiskLaws.{whole_lent}
use Rattle.commit.proofs.store_block.Goals as goal

pub returns : goal.returns
returns c = search (rules, whole_lent)
