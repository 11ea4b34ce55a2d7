-- The count of stores in the cells, and what a counted command leaves.
use Rattle.std.specs.Prelude.{ℕ, ◌+◌, min, max, ◌≡◌, List}
use Rattle.model.specs.Bytes.{Bytes}
use Rattle.model.specs.Command.{Outcome, World}
use Rattle.cells.specs.Cells.{stores_in, Exact, world_in}

-- a count of stores grown by k, up to the largest number of eight bytes; a larger count, which no cell has, stays, so that a refusal
-- keeps every count
unfoldable pub counted : ℕ → ℕ → ℕ
counted n k = max n (min (n + k) 18446744073709551615)

-- A command that found the cells v, left w, d and m and answered n: the answer and the world of its outcome, its stores counted;
-- cells that are those of their card and count stay so; a refusal leaves every cell as it was.
pub record Performs (o : Outcome World) (v w : List ℕ) (d m : Bytes) (n : ℕ) : Type 0 where
  pub answer : n ≡ o.answer
  pub world : world_in w d m ≡ o.world
  pub stores : stores_in w ≡ counted (stores_in v) o.stores
  pub exact : Exact v → Exact w
  pub refused : (n ≡ 0 → ⊥) → w ≡ v
