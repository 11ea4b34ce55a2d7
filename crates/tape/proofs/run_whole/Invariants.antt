-- `tape::run_whole` meets its contract. What is not run yet gets shorter, and is what whole commands leave of what was read.
use Rattle.std.proofs.Common.{length}
use Rattle.tape.specs.Left.{IsLeft}
use Rattle.tape.proofs.run_whole.Given as goal

abbrev pub invariant-loop-unrun : goal.invariant-loop-unrun
invariant-loop-unrun g l = IsLeft l.unrun l.fn.unrun

abbrev pub decreases-loop-unrun : goal.decreases-loop-unrun
decreases-loop-unrun g l = length l.unrun
