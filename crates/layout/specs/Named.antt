-- The numbers of a commit in range, and the cores that it names, counted one after another.
use Rattle.std.specs.Prelude.{ℕ, List, Bool, ◌||◌, length, ltb, eqb}
use Rattle.model.specs.Lists.{below, any, select}
use Rattle.model.specs.Bytes.{Bytes}
use Rattle.model.specs.Card.{new_name}
use Rattle.model.specs.Layout.{pair_at, number_named}
use Rattle.model.specs.declared.Shape.{Shape}
use Rattle.model.specs.declared.Name.{Name}

-- the number for core c is in range: 'A number for a core not below C is out of range'
unfoldable pub number_fits : Shape → Bytes → ℕ → Bool
number_fits s b c = ltb c s.cores || eqb (number_named b c) 0

-- the i-th name of a list is one of core c
unfoldable pub is_of_core : Bytes → ℕ → ℕ → Bool
is_of_core b c i = eqb c (pair_at new_name b 24 i).core

-- core c is that of one of the names
unfoldable pub names_core : List Name → ℕ → Bool
names_core ns c = any (λ (n : Name). eqb c n.core) ns

-- how many of the first i cores are
unfoldable pub cores_below : List Name → ℕ → ℕ
cores_below ns i = length (select (names_core ns) (below i))
