-- `images::lowest_in` meets its contract: the best so far is the lowest of the blocks passed.
use Rattle.images.specs.Newest.{lower_at}
use Rattle.images.proofs.Steps.{Stepped}
use Rattle.images.proofs.newest.lowest_in.Given as goal

abbrev pub invariant-loop-i : goal.invariant-loop-i
invariant-loop-i l = Stepped (lower_at l.block l.from) l.initial.best l.i l.best
