-- The cells with the count of stores put after a command.
use Rattle.std.specs.Prelude.{ℕ, List, set, Result, Ok, Err}
use Rattle.cells.specs.Cells.{stores_place}
use Rattle.model.specs.declared.Refusal.{Refusal}
use Rattle.command.specs.Counting.{counted}

-- n is the count before it; a refusal puts nothing
abbrev pub counted_in : List ℕ → ℕ → Result ℕ Refusal → List ℕ
counted_in w n (Ok k) = set w stores_place (counted n k)
counted_in w n (Err e) = w
