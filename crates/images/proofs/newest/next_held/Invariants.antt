-- `images::next_held` meets its contract: the best so far is the lowest of the cores passed.
use Rattle.images.proofs.Steps.{Stepped}
use Rattle.images.proofs.Held.{lower_core}
use Rattle.images.proofs.newest.next_held.Given as goal

abbrev pub invariant-loop-c : goal.invariant-loop-c
invariant-loop-c l = Stepped (lower_core l.set.disk.shape l.set.disk.bytes.now l.from l.set.extents.now l.set.runs.start l.set.runs.count) l.initial.best l.c l.best
