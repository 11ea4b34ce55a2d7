-- `close::copies::copy_at` meets its contract: the copy lies within memory.
use Rattle.model.specs.Commit.{copy_block}
use Rattle.close.proofs.CloseLaws.{copy_read}
use Rattle.std.proofs.Common.{rules}
use Rattle.close.proofs.copies.copy_at.Goals as goal

pub load_block-requires : goal.load_block-requires
unfolding copy_block
load_block-requires c = search rules

pub returns : goal.returns
returns c = search (rules, copy_read)
