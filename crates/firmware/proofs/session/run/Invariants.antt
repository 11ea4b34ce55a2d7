-- `firmware::session::run` meets its contract. Invariant: what is left of the run gives what holds at its end.
use Prim.Native.Nat.{◌-◌}
use mathlib.Core.Path.{◌≡◌}
use lib.ListN.{length}
use Rattle.firmware.proofs.RunLaws.{RunLeft}
use Rattle.firmware.proofs.session.run.Given as goal

abbrev pub invariant-loop-at : goal.invariant-loop-at
invariant-loop-at l = (length l.disk ≡ length l.initial.disk) × (length l.memory ≡ length l.initial.memory) × RunLeft l.tape l.initial.w l.initial.disk l.initial.memory l.at l.w l.disk l.memory l.last

abbrev pub decreases-loop-at : goal.decreases-loop-at
decreases-loop-at l = length l.tape - l.at
