-- `close::copies::copy_place` meets its contract: the sum is the definition's.
use Rattle.model.specs.Commit.{copy_block}
use Rattle.std.proofs.Common.{rules}
use Rattle.close.proofs.copies.copy_place.Goals as goal

pub returns : goal.returns
unfolding copy_block
returns c = search rules
