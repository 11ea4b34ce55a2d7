-- `retire::retired::release` meets its contract. Invariant: the first b holders are done.
use Rattle.retire.proofs.RetireLaws.{Releasing}
use Rattle.retire.proofs.retired.release.Given as goal

abbrev pub invariant-loop-b : goal.invariant-loop-b
invariant-loop-b l = Releasing l.n l.initial.w l.w l.b
