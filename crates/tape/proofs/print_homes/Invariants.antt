-- `tape::print_homes` meets its contract. Invariant: the lines so far are short.
use Rattle.std.proofs.Common.{◌≤◌, ◌*◌, length}
use Rattle.tape.proofs.print_homes.Given as goal

abbrev pub invariant-loop-b : goal.invariant-loop-b
invariant-loop-b g l = length l.output.text ≤ 44 * l.b-index
