-- `images::lowest_of` meets its contract: the best so far is the lowest of the records passed.
use Rattle.journal.proofs.Tested.{run_of, run_extent, run_place}
use Rattle.images.proofs.Steps.{steps}
use Rattle.images.proofs.newest.lowest_of.Goals as goal

pub loop-j-init : goal.loop-j-init
loop-j-init c = search steps

pub bounds-set-first : goal.bounds-set-first
bounds-set-first c = search (steps, run_of, run_place)

pub lowest_at-best-requires : goal.lowest_at-best-requires
lowest_at-best-requires c = search (steps, run_of, run_extent)

pub loop-j-preserved : goal.loop-j-preserved
loop-j-preserved c = search steps

pub returns : goal.returns
returns c = search steps
