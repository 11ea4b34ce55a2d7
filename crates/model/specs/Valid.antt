-- The valid set, and the newest image of a block in it.
use Rattle.std.specs.Prelude.{ℕ, ◌-◌, Bool, cond, ◌||◌, ltb, leb, eqb}
use mathlib.Core.List.{List, [], ◌∷◌, flat_map}
use Rattle.model.specs.Lists.{below, all, any, select}
use Rattle.model.specs.Bytes.{Bytes}
use Rattle.model.specs.Card.{new_name, same_name}
use Rattle.model.specs.Journal.{name_of, names_of, blocks_of, took}
use Rattle.model.specs.Shrink.{shrink}
use Rattle.model.specs.declared.Shape.{Shape}
use Rattle.model.specs.declared.Tail.{Tail}
use Rattle.model.specs.declared.Name.{Name}
use Rattle.model.specs.declared.CommitLayout.{CommitLayout}
use Rattle.model.specs.declared.Committed.{Committed}
use Rattle.std.specs.Prelude.{Option, Some, None}

-- ---- what a transaction requires: one of two rules
-- 'A transaction depends on those its list names', 'No order is implied between transactions of one core'; or paper 02, (c): 'every
-- transaction also depends on the one before it on its core since the card came up'
pub data Order : Type 0 where
  unordered : Order
  in_sequence : Order

-- 'the one before it on its core'; that of the first 'since the card came up' lies below the tail number, and so it is met
abbrev pub predecessor : Name → Name
predecessor n = new_name n.core (n.number - 1)

-- of the transaction of this name, which names those given
unfoldable pub required : Order → Name → List Name → List Name
required unordered n ns = ns
required in_sequence n ns = predecessor n ∷ ns

-- of one that was read: all names of a list, and of numbers the highest of each core. Paper 02, (d): 'With (c) in force, only the highest
-- number named for each core matters.'
unfoldable pub required_of : Order → CommitLayout → Shape → Bytes → Committed → List Name
required_of o y s d e = required o (name_of e) (names_of y s d e)

-- ---- the valid set
-- the transaction of this name is in the set
unfoldable pub is_in : List Committed → Name → Bool
is_in es n = any (λ (e : Committed). same_name n (name_of e)) es

-- 'each name listed is in the set or lies below its core's tail number', and so the one before
unfoldable pub is_met : (ℕ → Tail) → List Committed → Name → Bool
is_met tail_at es n = ltb n.number (tail_at n.core).number || is_in es n

unfoldable pub names_met : Order → CommitLayout → Shape → Bytes → (ℕ → Tail) → List Committed → Committed → Bool
names_met o y s d tail_at es e = all (is_met tail_at es) (required_of o y s d e)

-- 'The valid set is the largest set of committed, unretired transactions in which each name listed is ..'; 'The kept set and the valid
-- set are read with this added dependence'
unfoldable pub valid_set : Order → CommitLayout → Shape → Bytes → (ℕ → Tail) → List Committed → List Committed
valid_set o y s d tail_at es = shrink (names_met o y s d tail_at) es

-- the home blocks that a set holds, from the lowest to the highest
unfoldable pub blocks_held : Shape → Bytes → List Committed → List ℕ
blocks_held s d es = let bs = flat_map (blocks_of s d) es in select (λ (b : ℕ). any (eqb b) bs) (below s.blocks)

-- 'the image of highest stamp (equal stamps ..: the last in order of core and number)': of two, the later
unfoldable pub later : Option Committed → Committed → Committed
later None e = e
later (Some a) e = cond (leb a.stamp e.stamp) e a

-- of those that took block b, in their order, the one of highest stamp
unfoldable pub newest : Shape → Bytes → ℕ → Option Committed → List Committed → Option Committed
newest s d b best [] = best
newest s d b best (e ∷ es) = newest s d b (cond (took s d b e) (Some (later best e)) best) es
