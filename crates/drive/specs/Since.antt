-- The stores since the barrier in the ledger's words, the newest first, and the commits that are lost with marked ones.
use Rattle.std.specs.Prelude.{ℕ, List, [], ◌∷◌, Bool, true, false, cond, length, eqb}
use Rattle.model.specs.Lists.{any}
use Rattle.model.specs.Card.{same_name}
use Rattle.model.specs.declared.Name.{Name}

-- a part, descriptor or data, of the record that a core is storing; the commit of a transaction; a home store of one; a master store; a
-- home store of recovery
pub data StoreKind : Type 0 where
  record_part : ℕ → StoreKind
  commit : Name → StoreKind
  home : Name → StoreKind
  master : StoreKind
  restore : StoreKind

abbrev pub is_part_of : ℕ → StoreKind → Bool
is_part_of c (record_part a) = eqb c a
is_part_of c (commit u) = false
is_part_of c (home u) = false
is_part_of c master = false
is_part_of c restore = false

abbrev pub is_commit_of : Name → StoreKind → Bool
is_commit_of t (record_part a) = false
is_commit_of t (commit u) = same_name t u
is_commit_of t (home u) = false
is_commit_of t master = false
is_commit_of t restore = false

abbrev pub is_home_of : Name → StoreKind → Bool
is_home_of t (record_part a) = false
is_home_of t (commit u) = false
is_home_of t (home u) = same_name t u
is_home_of t master = false
is_home_of t restore = false

abbrev pub is_master_store : StoreKind → Bool
is_master_store (record_part a) = false
is_master_store (commit u) = false
is_master_store (home u) = false
is_master_store master = true
is_master_store restore = false

abbrev pub is_restore : StoreKind → Bool
is_restore (record_part a) = false
is_restore (commit u) = false
is_restore (home u) = false
is_restore master = false
is_restore restore = true

-- a part of core c's record, the commit of t, a home store of t is among them
abbrev pub part_since : List StoreKind → ℕ → Bool
part_since ks c = any (is_part_of c) ks

abbrev pub commit_since : List StoreKind → Name → Bool
commit_since ks t = any (is_commit_of t) ks

abbrev pub home_since : List StoreKind → Name → Bool
home_since ks t = any (is_home_of t) ks

-- whether the commit of t, which the test tells, is lost with the marked stores, the newest first: 'lowest bit for the first store since
-- the barrier'; 'bits beyond the last store mean nothing'
module _ {A : Type 0} (is_of_name : Name → A → Bool) (marked : ℕ → Bool) where
  abbrev pub lost_among : List A → Name → Bool
  lost_among [] t = false
  lost_among (k ∷ ks) t = cond (is_of_name t k) (marked (length ks)) (lost_among ks t)

abbrev pub lost_since : (ℕ → Bool) → List StoreKind → Name → Bool
lost_since marked ks t = lost_among is_commit_of marked ks t
