-- `valid::total_count` meets its contract: the sum of the counts passed.
use Rattle.valid.proofs.Lowering.{TotalBelow}
use Rattle.valid.proofs.shrinking.total_count.Given as goal

abbrev pub invariant-loop-c : goal.invariant-loop-c
invariant-loop-c l = TotalBelow l.count l.n l.c
