-- `lines::homes::printed_below` meets its contract. Invariant: those below b are put.
use Prim.Native.Nat.{◌≤◌}
use mathlib.Core.Path.{◌≡◌}
use lib.ListN.{take}
use Rattle.model.specs.Lists.{below, select}
use Rattle.lines.specs.Lines.{is_printed}
use Rattle.lines.proofs.homes.printed_below.Given as goal

abbrev pub invariant-loop-b : goal.invariant-loop-b
invariant-loop-b l = (l.n ≤ l.b) × (take l.n l.numbers ≡ select (is_printed l.disk) (below l.b))
