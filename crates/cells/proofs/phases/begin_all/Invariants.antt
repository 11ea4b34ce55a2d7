-- `cells::phases::begin_all` meets its contract: one core after another.
use Rattle.cells.proofs.PhaseLaws.{Begins}
use Rattle.cells.proofs.phases.begin_all.Given as goal

abbrev pub invariant-loop-c : goal.invariant-loop-c
invariant-loop-c l = Begins l.initial.w l.tails l.w l.c
