-- `images::lowest_in` meets its contract: the best so far is the lowest of the blocks passed.
use Rattle.layout.proofs.Narrow.{block_below}
use Rattle.images.proofs.Steps.{steps}
use Rattle.images.proofs.Held.{lower_at_lem}
use Rattle.images.proofs.newest.lowest_in.Goals as goal

pub loop-i-init : goal.loop-i-init
loop-i-init c = search steps

pub block_byte-requires : goal.block_byte-requires
block_byte-requires c = search (steps, block_below)

pub loop-i-preserved : goal.loop-i-preserved
loop-i-preserved c = search (steps, lower_at_lem)

pub returns : goal.returns
returns c = search steps
