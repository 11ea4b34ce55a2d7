-- WRITE in stages: what it meets before its rule, and what each step makes of card and memory.
use Rattle.std.specs.Prelude.{ℕ, ◌≤◌, ◌<◌, ◌≡◌, Bool, cond, List, [], ◌∷◌, ltb, length}
use Rattle.model.specs.Bytes.{Bytes, block_at, store}
use Rattle.model.specs.Shape.{home_block}
use Rattle.model.specs.Card.{core_of, new_holder, with_name, with_running, with_core, with_holder}
use Rattle.model.specs.Command.{World, refusal, not_up, no_core, no_block}
use Rattle.model.specs.Write.{takes_block, is_named_back, loads_image}
use Rattle.model.specs.declared.Name.{Name}
use Rattle.model.specs.declared.Card.{Card}
use Rattle.model.specs.declared.Rule.{Rule}
use Rattle.cells.specs.Cells.{world}

-- ---- before the rule: 1, 20, 22, 5 to 7
abbrev pub first_conditions : ℕ → ℕ → ℕ → World → List (Bool × ℕ)
first_conditions c b o w = not_up w ((no_core w c, 5) ∷ (no_block w b, 6) ∷ (ltb 124 o, 7) ∷ [])

-- the four bytes lie in the image of a block
pub record InImage (d m : Bytes) (b o : ℕ) : Type 0 where
  pub disk : length d ≡ 32896
  pub memory : length m ≡ 16384
  pub block : b < 64
  pub offset : o ≤ 124

-- what is known of a WRITE that met none of them
pub record Unrefused (x : Card) (c b o : ℕ) (d m : Bytes) : Type 0 where
  pub none : refusal (first_conditions c b o (world x d m)) ≡ 0
  pub core : c < 8
  pub within : InImage d m b o

-- ---- card and memory afterwards
-- core u's running transaction names the writer where the rule asks for it
unfoldable pub named_back : Rule → Card → ℕ → Name → Card
named_back r x u own = cond (is_named_back r) (with_core x u (with_running (core_of x u) (with_name (core_of x u).running own))) x

-- the writer holds the block where it takes it
unfoldable pub held_by : Rule → Card → ℕ → Name → Card
held_by r x b own = cond (takes_block r) (with_holder x b (new_holder own)) x

-- the block's image is loaded from disk d where the rule asks for it
unfoldable pub loaded_by : Rule → Bytes → Bytes → ℕ → Bytes
loaded_by r d m b = cond (loads_image r) (store m b (block_at d (home_block b))) m
