-- A command over lent cells as the model's outcome, and refusals met stage by stage.
use Rattle.std.specs.Prelude.{ℕ, ◌≡◌, List, cond, eqb, length, Result, Ok, Err}
use Rattle.model.specs.Bytes.{Bytes}
use Rattle.model.specs.Command.{World, Outcome, wrong_length}
use Rattle.model.specs.Refusal.{answer_of}
use Rattle.cells.specs.Cells.{world_in}
use Rattle.cells.specs.Changes.{AllFit, Frame}
use Rattle.model.specs.declared.Phase.{Phase}
use Rattle.model.specs.declared.Phase.TheVariants.{Blank, Up, Down}
use Rattle.model.specs.declared.Refusal.{Refusal}

-- the stores that a command did: none where it was refused
abbrev pub stores_of : Result ℕ Refusal → ℕ
stores_of (Ok n) = n
stores_of (Err e) = 0

-- what a command answered, with cells and slices as it left them
abbrev pub outcome_in : Result ℕ Refusal → List ℕ → Bytes → Bytes → Outcome World
outcome_in r w d m = record { answer = answer_of r; world = world_in w d m; stores = stores_of r }

-- A command meets its definition: it found the cells v and left w, d and m. Its outcome is the one defined, no bit above a field's
-- width appears, and a refusal leaves every cell as it was.
pub record Meets (o : Outcome World) (v w : List ℕ) (d m : Bytes) (r : Result ℕ Refusal) : Type 0 where
  pub outcome : outcome_in r w d m ≡ o
  pub size : length w ≡ 423
  pub fits : AllFit v → AllFit w
  pub refused : (answer_of r ≡ 0 → ⊥) → w ≡ v

-- One store of a command, over the cells v and the disk d: it left w and e. With any memory that is the outcome given.
pub record Stores (f : World → Outcome World) (v w : List ℕ) (d e : Bytes) : Type 0 where
  pub outcome : (m : Bytes) → outcome_in (Ok 1) w e m ≡ f (world_in v d m)
  pub frame : Frame v w 0 423

-- of the refusals of two stages, the one met first; 0 for none
unfoldable pub first_of : ℕ → ℕ → ℕ
first_of a b = cond (eqb a 0) b a

-- the number that a command has for a phase
unfoldable pub by_phase : Phase → ℕ → ℕ → ℕ → ℕ
by_phase Blank blank up down = blank
by_phase Up blank up down = up
by_phase Down blank up down = down

-- what a command meets first: slices of a wrong length, then its number for the card's phase
unfoldable pub phase_refusal : World → ℕ → ℕ → ℕ → ℕ
phase_refusal w blank up down = cond (wrong_length w) 1 (by_phase w.card.phase blank up down)
