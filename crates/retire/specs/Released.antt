-- RETIRE: the holders after a transaction is retired.
use Rattle.std.specs.Prelude.{ℕ, ◌≡◌, true}
use Rattle.model.specs.Card.{with_arrays}
use Rattle.model.specs.Checkpoint.{freed, released}
use Rattle.cells.specs.Cells.{holder_in}
use Rattle.cells.specs.Changes.{fits_at}
use Rattle.model.specs.declared.Name.{Name}
use Rattle.model.specs.declared.Card.{Card}

-- the card with no block held by the transaction of this name
abbrev pub with_released : Card → Name → Card
with_released x n = with_arrays x x.tails x.cores (released n x.holders)

-- a holder's cell after the transaction of this name is retired: it tells of the holder, and still fits where it did
pub record Freed (n : Name) (x r : ℕ) : Type 0 where
  pub holder : holder_in r ≡ freed n (holder_in x)
  pub fits : (i : ℕ) → fits_at i x ≡ true → fits_at i r ≡ true
