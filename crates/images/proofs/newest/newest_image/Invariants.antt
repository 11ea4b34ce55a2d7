-- `images::newest_image` meets its contract: the best so far is the newest of the cores passed.
use Rattle.std.specs.Prelude.{◌<◌}
use Rattle.images.proofs.Steps.{Stepped}
use Rattle.images.proofs.Images.{later_core}
use Rattle.images.proofs.newest.newest_image.Given as goal

abbrev pub invariant-loop-c : goal.invariant-loop-c
invariant-loop-c l = Stepped (later_core l.set.disk.shape l.set.disk.bytes.now l.b l.set.extents.now l.set.runs.start l.set.runs.count) l.initial.best l.c l.best × (l.best.block < 257)
