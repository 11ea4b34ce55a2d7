-- The valid set is the largest set of the transactions read in which each name required is in the set or below its core's
-- tail number, and each of it has all that it depends on among those read. Both are the laws of shrinking.
use mathlib.Core.Path.{◌≡◌, refl}
use mathlib.Core.Logic.{◌⊎◌}
use mathlib.Core.Bool.{Bool, true, false}
use mathlib.Core.List.{List, Memᴰ}
use Prim.Native.Nat.{ℕ}
use native.Mathlib.Omega.{arith}
use lib.Dec.{eqb, ltb}
use borrow.Author.Tests.{eqb-true, eq-eqb, le-ltb}
use Rattle.model.specs.Bytes.{Bytes}
use Rattle.model.specs.Card.{new_name, same_name}
use Rattle.model.specs.Journal.{name_of, journals}
use Rattle.model.specs.Shrink.{AllStay, Within, DependsOn}
use Rattle.model.specs.Valid.{Order, is_in, is_met, required_of, names_met, valid_set}
use Rattle.model.specs.declared.Shape.{Shape}
use Rattle.model.specs.declared.Tail.{Tail}
use Rattle.model.specs.declared.Name.{Name}
use Rattle.model.specs.declared.CommitLayout.{CommitLayout}
use Rattle.model.specs.declared.Committed.{Committed}
use Rattle.model.proofs.Lists.{and_both, and_left, and_right}
use Rattle.model.proofs.Records.{journals_known, journals_distinct}
use Rattle.model.proofs.Shrink.{Monotone, Named, ListsIn, shrink_closed, shrink_within, shrink_largest, named_monotone, shrunk_names, shrunk_depends}

pub same_name_true : (m n : Name) → same_name m n ≡ true → m ≡ n
unfolding same_name
same_name_true m n h =
    let c : m.core ≡ n.core = eqb-true _ _ (and_left (eqb m.core n.core) _ h) in
    let k : m.number ≡ n.number = eqb-true _ _ (and_right (eqb m.core n.core) _ h) in
    let e : new_name m.core m.number ≡ new_name n.core n.number = rw (c, k) in
    e

pub same_name_refl : (n : Name) → same_name n n ≡ true
unfolding same_name
same_name_refl n = and_both (eq-eqb n.core n.core refl) (eq-eqb n.number n.number refl)

-- it 'lies below its core's tail number'
abbrev pub below_tail : (ℕ → Tail) → Name → Bool
below_tail tail_at n = ltb n.number (tail_at n.core).number

-- none of those read is below its core's tail number
pub journals_unretired : (y : CommitLayout) (s : Shape) (d : Bytes) (tail_at : ℕ → Tail) (most : ℕ → ℕ) (u : Committed) → Memᴰ u (journals y s d tail_at most) → below_tail tail_at (name_of u) ≡ false
journals_unretired y s d tail_at most u m =
    let r = (journals_known y s d tail_at most u m).1 in
    le-ltb u.number (tail_at u.core).number (omega (arith, r.1.number))

module _ (o : Order) (y : CommitLayout) (s : Shape) (d : Bytes) (tail_at : ℕ → Tail) where
  pub names_met_monotone : Monotone (names_met o y s d tail_at)
  unfolding names_met is_met is_in
  names_met_monotone = named_monotone (required_of o y s d) name_of same_name same_name_true same_name_refl (below_tail tail_at)

  pub valid_closed : (es : List Committed) → AllStay (names_met o y s d tail_at) (valid_set o y s d tail_at es)
  unfolding valid_set
  valid_closed = shrink_closed (names_met o y s d tail_at)

  pub valid_within : (es : List Committed) → Within (valid_set o y s d tail_at es) es
  unfolding valid_set
  valid_within = shrink_within (names_met o y s d tail_at)

  pub valid_largest : (es ss : List Committed) → Within ss es → AllStay (names_met o y s d tail_at) ss → Within ss (valid_set o y s d tail_at es)
  unfolding valid_set
  valid_largest = shrink_largest (names_met o y s d tail_at) names_met_monotone

  -- 'each name listed is in the set or lies below its core's tail number', and so each required
  pub valid_names : (es : List Committed) (t : Committed) → Memᴰ t (valid_set o y s d tail_at es) → (n : Name) → Memᴰ n (required_of o y s d t)
      → (below_tail tail_at n ≡ true) ⊎ Named name_of (valid_set o y s d tail_at es) n
  unfolding valid_set names_met is_met is_in
  valid_names = shrunk_names (required_of o y s d) name_of same_name same_name_true same_name_refl (below_tail tail_at)

  -- each valid one has all that it depends on among those read
  pub valid_depends : (most : ℕ → ℕ) (t u : Committed) → Memᴰ t (valid_set o y s d tail_at (journals y s d tail_at most))
      → DependsOn (ListsIn (required_of o y s d) name_of (journals y s d tail_at most)) t u → Memᴰ u (valid_set o y s d tail_at (journals y s d tail_at most))
  unfolding valid_set names_met is_met is_in
  valid_depends most =
      shrunk_depends (required_of o y s d) name_of same_name same_name_true same_name_refl (below_tail tail_at) (journals y s d tail_at most) (journals_distinct y s d tail_at most)
      (journals_unretired y s d tail_at most)
