-- `journal_page::line::shifted` meets its contract: place by place.
use Prim.Native.Nat.{◌/◌, ◌^◌}
use mathlib.Core.Path.{◌≡◌}
use Rattle.journal_page.proofs.line.shifted.Given as goal

abbrev pub invariant-loop : goal.invariant-loop
invariant-loop l = l.left ≡ l.n / l.base ^ l.counter
