-- `close::frozen_core::copy_running` meets its contract. Invariant: the first i cells are copied.
use Rattle.std.proofs.Common.{◌≡◌}
use Rattle.cells.specs.Cells.{running_place, closed_place}
use Rattle.close.proofs.StateLaws.{Moved}
use Rattle.close.proofs.frozen_core.copy_running.Given as goal

abbrev pub invariant-loop-i : goal.invariant-loop-i
invariant-loop-i l = (l.from ≡ running_place l.c) × (l.to ≡ closed_place l.c) × Moved l.initial.w l.c l.w l.i
