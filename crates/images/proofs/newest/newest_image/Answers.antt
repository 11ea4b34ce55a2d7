-- `images::newest_image` meets its contract: the best so far is the newest of the cores passed.
use Rattle.images.proofs.Steps.{steps}
use Rattle.images.proofs.Images.{newest_is}
use Rattle.images.proofs.newest.newest_image.Goals as goal

pub loop-c-init : goal.loop-c-init
loop-c-init c = (search steps, search steps)

pub loop-c-preserved : goal.loop-c-preserved
loop-c-preserved c = (search steps, search steps)

pub returns : goal.returns
returns c = (search (steps, newest_is), search steps)
