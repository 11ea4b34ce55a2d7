-- `images::next_held` meets its contract: the best so far is the lowest of the cores passed.
use Rattle.images.proofs.Steps.{steps}
use Rattle.images.proofs.Held.{held_some, held_none}
use Rattle.images.proofs.newest.next_held.Goals as goal

pub loop-c-init : goal.loop-c-init
loop-c-init c = search steps

pub loop-c-preserved : goal.loop-c-preserved
loop-c-preserved c = search steps

pub returns-then-best-set : goal.returns-then-best-set
returns-then-best-set c = search (steps, held_some)

pub returns-else-best-set : goal.returns-else-best-set
returns-else-best-set c = search (steps, held_none)
