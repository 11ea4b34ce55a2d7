-- `images::newest_of` meets its contract: the best so far is the newest of the records passed.
use Rattle.journal.proofs.Tested.{run_of, run_place}
use Rattle.images.proofs.Steps.{steps, run_sized, run_tested}
use Rattle.images.proofs.Images.{later_in_lem}
use Rattle.images.proofs.newest.newest_of.Goals as goal

pub loop-j-init : goal.loop-j-init
loop-j-init c = search steps

pub bounds-set-first : goal.bounds-set-first
bounds-set-first c = search (steps, run_of, run_place)

pub later_of-best-requires : goal.later_of-best-requires
later_of-best-requires c =
    let t : _ = run_of _ _ _ _ _ c.args.set.now.tested c.args.c c.requires.0 in (
      run_sized _ _ _ _ _ _ _ c.committed-e.ensures _ t c.loop-j-test.true c.requires.0,
      run_tested _ _ _ _ _ _ _ c.committed-e.ensures _ t c.loop-j-test.true,
      search steps,
    )

pub loop-j-preserved : goal.loop-j-preserved
loop-j-preserved c = (search (steps, later_in_lem), search steps)

pub returns : goal.returns
returns c = search steps
