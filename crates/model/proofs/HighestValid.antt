-- Paper 02, (d), of the valid set: 'With (c) in force, only the highest number named for each core matters.'
use Prim.Native.Nat.{ℕ, suc, ◌-◌, ◌≤◌, ◌<◌}
use native.Mathlib.Omega.{arith}
use mathlib.Core.Path.{◌≡◌, sym, ap, ◌∙◌, subst}
use mathlib.Core.Logic.{inl, inr}
use mathlib.Core.Bool.{Bool, true}
use mathlib.Core.List.{List, ◌∷◌, Memᴰ}
use lib.Dec.{ltb}
use borrow.Author.Tests.{ltb-true, lt-ltb}
use Rattle.model.specs.Lists.{all}
use Rattle.model.specs.Card.{new_name, same_name}
use Rattle.model.specs.Layout.{highest_in, names_from}
use Rattle.model.specs.Journal.{name_of}
use Rattle.model.specs.Shrink.{AllStay, Within, shrink}
use Rattle.model.specs.Valid.{predecessor, is_in, is_met}
use Rattle.model.specs.declared.Tail.{Tail}
use Rattle.model.specs.declared.Name.{Name}
use Rattle.model.specs.declared.Committed.{Committed}
use Rattle.model.proofs.Lists.{and_both, and_left, and_right, or_cases, or_left, any_mem}
use Rattle.model.proofs.Shrink.{Monotone, named_monotone}
use Rattle.model.proofs.SameShrink.{shrink_same}
use Rattle.model.proofs.Highest.{Downward, highest_met}
use Rattle.model.proofs.Valid.{same_name_true, same_name_refl, below_tail}

-- in a set in which the one before each is met, a number is met only with the one before it
pub met_downward : (tail_at : ℕ → Tail) (es : List Committed) → ((e : Committed) → Memᴰ e es → is_met tail_at es (predecessor (name_of e)) ≡ true) → Downward (is_met tail_at es)
unfolding is_met is_in
met_downward tail_at es before c k h =
    elim (or_cases (ltb (suc k) (tail_at c).number) (is_in es (new_name c (suc k))) h) [
      | inl b ↦ or_left (is_in es (new_name c k)) (lt-ltb k (tail_at c).number (omega (arith, ltb-true (suc k) (tail_at c).number b)))
      | inr i ↦ (let r = any_mem (λ (e : Committed). same_name (new_name c (suc k)) (name_of e)) es i in
          let same : new_name c (suc k) ≡ name_of r.0 = same_name_true _ _ r.2 in
          let less : suc k - 1 ≡ k = omega arith in
          let one : predecessor (name_of r.0) ≡ new_name c k = ap predecessor (sym same) ∙ ap (new_name c) less in
          subst (λ (n : Name). is_met tail_at es n ≡ true) one (before r.0 r.1))
    ]

module _ (tail_at : ℕ → Tail) where
  -- the one before it and each of the names given are met in the set
  abbrev pub met_with : (Committed → List Name) → List Committed → Committed → Bool
  met_with names ss e = all (is_met tail_at ss) (predecessor (name_of e) ∷ names e)

  pub met_with_monotone : (names : Committed → List Name) → Monotone (met_with names)
  unfolding is_met is_in
  met_with_monotone names = named_monotone (λ (e : Committed). predecessor (name_of e) ∷ names e) name_of same_name same_name_true same_name_refl (below_tail tail_at)

  before_met : (names : Committed → List Name) (ss : List Committed) → AllStay (met_with names) ss → (e : Committed) → Memᴰ e ss → is_met tail_at ss (predecessor (name_of e)) ≡ true
  unfolding all
  before_met names ss s e m = and_left _ _ (s e m)

  names_met : (names : Committed → List Name) (ss : List Committed) → AllStay (met_with names) ss → (e : Committed) → Memᴰ e ss → all (is_met tail_at ss) (names e) ≡ true
  unfolding all
  names_met names ss s e m = and_right (is_met tail_at ss (predecessor (name_of e))) _ (s e m)

  both_met : (names : Committed → List Name) (ss : List Committed) (e : Committed) → is_met tail_at ss (predecessor (name_of e)) ≡ true → all (is_met tail_at ss) (names e) ≡ true
      → met_with names ss e ≡ true
  unfolding all
  both_met names ss e = and_both

  -- what is left is the same, whether all names count or the highest of each core alone
  pub valid_by_highest : (es : List Committed) (names₁ names₂ : Committed → List Name) → ((e : Committed) → Memᴰ e es → names₂ e ≡ names_from (highest_in (names₁ e)))
      → ((e : Committed) → Memᴰ e es → (n : Name) → Memᴰ n (names₁ e) → (n.core < 8) × (1 ≤ n.number)) → shrink (met_with names₁) es ≡ shrink (met_with names₂) es
  valid_by_highest es names₁ names₂ highest range = shrink_same (met_with names₁) (met_with names₂) (met_with_monotone names₁) (met_with_monotone names₂) es to from
    where
      same : (ss : List Committed) → Within ss es → ((e : Committed) → Memᴰ e ss → is_met tail_at ss (predecessor (name_of e)) ≡ true)
          → (e : Committed) → Memᴰ e ss → all (is_met tail_at ss) (names₁ e) ≡ all (is_met tail_at ss) (names₂ e)
      same ss w before e m =
          highest_met (is_met tail_at ss) (met_downward tail_at ss before) (names₁ e) (range e (w e m))
          ∙ ap (all (is_met tail_at ss)) (sym (highest e (w e m)))

      to : (ss : List Committed) → Within ss es → AllStay (met_with names₁) ss → AllStay (met_with names₂) ss
      to ss w s e m =
          let before = before_met names₁ ss s in
          both_met names₂ ss e (before e m) (sym (same ss w before e m) ∙ names_met names₁ ss s e m)

      from : (ss : List Committed) → Within ss es → AllStay (met_with names₂) ss → AllStay (met_with names₁) ss
      from ss w s e m =
          let before = before_met names₂ ss s in
          both_met names₁ ss e (before e m) (same ss w before e m ∙ names_met names₂ ss s e m)
