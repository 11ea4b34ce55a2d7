-- `images::lowest_of` meets its contract: the best so far is the lowest of the records passed.
use Rattle.std.specs.Prelude.{get_or}
use Rattle.images.specs.Newest.{lower_in}
use Rattle.images.proofs.Steps.{Stepped}
use Rattle.images.proofs.newest.lowest_of.Given as goal

abbrev pub invariant-loop-j : goal.invariant-loop-j
invariant-loop-j l = Stepped (lower_in l.set.disk.shape l.set.disk.bytes.now l.from l.set.extents.now l.c (get_or l.set.runs.start l.c 0)) l.initial.best l.j l.best
