-- `images::newest_of` meets its contract: the best so far is the newest of the records passed.
use Rattle.std.specs.Prelude.{◌<◌, get_or}
use Rattle.images.specs.Newest.{later_in}
use Rattle.images.proofs.Steps.{Stepped}
use Rattle.images.proofs.newest.newest_of.Given as goal

abbrev pub invariant-loop-j : goal.invariant-loop-j
invariant-loop-j l = Stepped (later_in l.set.disk.shape l.set.disk.bytes.now l.b l.set.extents.now l.c (get_or l.set.runs.start l.c 0)) l.initial.best l.j l.best × (l.best.block < 257)
