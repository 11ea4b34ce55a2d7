-- CLOSE's change of a core, in its two parts: together they are the model's `closed_core`.
use Rattle.std.specs.Prelude.{ℕ, ◌+◌, ◌%◌, ◌^◌}
use Rattle.model.specs.Card.{no_transaction, stamped, with_running}
use Rattle.model.specs.declared.Core.{Core}
use Rattle.cells.specs.Changes.{with_numbers, with_closed}

-- its running transaction frozen under this stamp
abbrev pub frozen : Core → ℕ → Core
frozen k stamp = with_closed (with_running k no_transaction) (stamped k.running stamp)

-- the next number, and nothing stored yet
abbrev pub counted_close : Core → Core
counted_close k = with_numbers k ((k.next + 1) % 2 ^ 32) k.used 0 k.homed
