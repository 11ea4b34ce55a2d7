-- Two tests leave the same, in the same order, if each set within the given one whose elements all meet one of them has them all meet
-- the other: what is left is the largest such set, and a selection of what was given.
use Prim.Native.Nat.{ℕ, zero, suc}
use mathlib.Core.Path.{◌≡◌, refl, sym, ◌∙◌, subst}
use mathlib.Core.Bool.{Bool, true, ◌&&◌}
use mathlib.Core.List.{List, [], ◌∷◌, Memᴰ}
use lib.ListN.{length}
use lib.Dec.{eqb}
use Rattle.model.specs.Lists.{select}
use Rattle.model.specs.Shrink.{AllStay, Within, strike, shrink_in, shrink}
use Rattle.model.proofs.Lists.{cases, bool_ext}
use Rattle.model.proofs.Select.{mem_select, select_mem, select_same}
use Rattle.model.proofs.Shrink.{Monotone, shrink_in_settled, shrink_in_again, shrink_closed, shrink_within, shrink_largest}

module _ {A : Type 0} where
  -- tests that agree on a list select the same of it
  pub select_alike : (p q : A → Bool) (xs : List A) → ((x : A) → Memᴰ x xs → p x ≡ q x) → select p xs ≡ select q xs
  unfolding select
  select_alike p q [] h = refl
  select_alike p q (x ∷ xs) h = rw (h x (Memᴰ.head refl), select_alike p q xs (λ y m. h y (Memᴰ.tail m))) refl

  -- a selection of a selection is one
  pub select_twice : (p q : A → Bool) (xs : List A) → select q (select p xs) ≡ select (λ (x : A). p x && q x) xs
  unfolding select
  select_twice p q [] = refl
  select_twice p q (x ∷ xs) =
      cases (p x)
      (λ h. cases (q x) (λ k. rw (h, k, select_twice p q xs) refl) (λ k. rw (h, k, select_twice p q xs) refl))
      (λ h. rw (h, select_twice p q xs) refl)

  -- the list is those of another that meet some test
  abbrev pub SelectedOf : List A → List A → Type 0
  SelectedOf ss es = (p : A → Bool) × (ss ≡ select p es)

  selected_all : (es : List A) → SelectedOf es es
  selected_all es = ((λ x. true), sym (select_same (λ (x : A). true) es (λ x m. refl)))

  -- selections of one list that have the same elements are one
  pub selected_same : (es ss ts : List A) → SelectedOf ss es → SelectedOf ts es → Within ss ts → Within ts ss → ss ≡ ts
  selected_same es ss ts s t to from = s.1 ∙ select_alike s.0 t.0 es agree ∙ sym t.1
    where
      agree : (x : A) → Memᴰ x es → s.0 x ≡ t.0 x
      agree x m =
          bool_ext
          (λ h. (select_mem t.0 es x (subst (λ (l : List A). Memᴰ x l) t.1 (to x (subst (λ (l : List A). Memᴰ x l) (sym s.1) (mem_select s.0 es x m h))))).1)
          (λ h. (select_mem s.0 es x (subst (λ (l : List A). Memᴰ x l) s.1 (from x (subst (λ (l : List A). Memᴰ x l) (sym t.1) (mem_select t.0 es x m h))))).1)

  module _ (stays : List A → A → Bool) where
    shrink_in_selected : (n : ℕ) (es : List A) → SelectedOf (shrink_in n stays es) es
    unfolding shrink_in strike
    shrink_in_selected zero es = selected_all es
    shrink_in_selected (suc n) es =
        cases (eqb (length (strike stays es)) (length es))
        (λ k. let r = selected_all es in (r.0, shrink_in_settled stays n es k ∙ r.1))
        (λ k. let r = shrink_in_selected n (strike stays es) in
        ((λ x. stays es x && r.0 x), shrink_in_again stays n es k ∙ r.1 ∙ select_twice (stays es) r.0 es))

    -- what is left is a selection
    pub shrink_selected : (es : List A) → SelectedOf (shrink stays es) es
    unfolding shrink
    shrink_selected es = shrink_in_selected (length es) es

pub shrink_same : {A : Type 0} (f g : List A → A → Bool) → Monotone f → Monotone g → (es : List A)
    → ((ss : List A) → Within ss es → AllStay f ss → AllStay g ss) → ((ss : List A) → Within ss es → AllStay g ss → AllStay f ss)
    → shrink f es ≡ shrink g es
shrink_same f g mono_f mono_g es to from =
    selected_same es (shrink f es) (shrink g es) (shrink_selected f es) (shrink_selected g es)
    (shrink_largest g mono_g es (shrink f es) (shrink_within f es) (to (shrink f es) (shrink_within f es) (shrink_closed f es)))
    (shrink_largest f mono_f es (shrink g es) (shrink_within g es) (from (shrink g es) (shrink_within g es) (shrink_closed g es)))
