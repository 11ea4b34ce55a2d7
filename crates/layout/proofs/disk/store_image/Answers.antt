-- `layout::disk::store_image` meets its contract: the part is as long as the block that it becomes.
use borrow.Author.Rules.{rules}
use Rattle.layout.proofs.DiskLaws.{whole_lent}
use Rattle.layout.proofs.disk.store_image.Goals as goal

pub returns : goal.returns
returns c = search (rules, whole_lent)
