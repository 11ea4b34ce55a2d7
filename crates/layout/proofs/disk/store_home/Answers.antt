-- `layout::disk::store_home` meets its contract: what was written to the block is a store.
use Rattle.layout.proofs.DiskLaws.{home_lent}
use Rattle.layout.proofs.disk.store_home.Goals as goal

pub returns : goal.returns
returns c = home_lent c.args.disk.now c.args.b c.args.image _ c.home_block-from.ensures _ c.store_image.ensures
