-- The set that shrinking leaves is the largest one in which each meets the test, if the test is monotone; where the test
-- is of names, each of the set has all that it depends on, transitively.
use Prim.Native.Nat.{ℕ, zero, suc, ◌≤◌}
use native.Mathlib.Omega.{arith}
use mathlib.Core.Path.{◌≡◌, refl, sym, ap, ◌∙◌}
use mathlib.Core.Logic.{◌⊎◌, inl, inr}
use mathlib.Core.Bool.{Bool, true, false, true≢false, ◌||◌}
use mathlib.Core.List.Memᴰ
use mathlib.Core.List.{List, [], ◌∷◌, map, Memᴰ}
use lib.ListN.{length, length-map}
use lib.Dec.{eqb}
use borrow.Author.Tests.{eqb-true, eqb-false}
use Rattle.model.specs.Lists.{all, any}
use Rattle.model.specs.Shrink.{AllStay, Within, strike, shrink_in, shrink, DependsOn, requires_it, through}
use Rattle.model.proofs.Lists.{cases, all_mem, mem_all, any_mem, mem_any, or_cases, or_left, or_right}
use Rattle.model.proofs.Select.{select_length, mem_select, select_mem, select_all, select_map}

-- who meets the test in a set meets it in a larger one
abbrev pub Monotone : {A : Type 0} → (List A → A → Bool) → Type 0
Monotone {A} stays = (ss es : List A) → Within ss es → (e : A) → stays ss e ≡ true → stays es e ≡ true

module _ {A : Type 0} (stays : List A → A → Bool) where
  pub shrink_in_settled : (n : ℕ) (es : List A) → eqb (length (strike stays es)) (length es) ≡ true → shrink_in (suc n) stays es ≡ es
  unfolding shrink_in
  shrink_in_settled n es h = rw (h, shrink_in)

  pub shrink_in_again : (n : ℕ) (es : List A) → eqb (length (strike stays es)) (length es) ≡ false → shrink_in (suc n) stays es ≡ shrink_in n stays (strike stays es)
  unfolding shrink_in
  shrink_in_again n es h = rw (h, shrink_in)

  shrink_in_closed : (n : ℕ) (es : List A) → length es ≤ n → AllStay stays (shrink_in n stays es)
  unfolding shrink_in strike
  shrink_in_closed zero [] h = λ e m. elim m [ ]
  shrink_in_closed zero (x ∷ es) h = absurd (omega arith)
  shrink_in_closed (suc n) es h =
      cases (eqb (length (strike stays es)) (length es))
      (λ k. rw (shrink_in_settled n es k) (select_all (stays es) es (eqb-true _ _ k)))
      (λ k. rw (shrink_in_again n es k)
      (shrink_in_closed n (strike stays es) (omega (arith, select_length (stays es) es, eqb-false (length (strike stays es)) (length es) k))))

  shrink_in_within : (n : ℕ) (es : List A) → Within (shrink_in n stays es) es
  unfolding shrink_in strike
  shrink_in_within zero es e m = m
  shrink_in_within (suc n) es e m =
      cases (eqb (length (strike stays es)) (length es))
      (λ k. rw (shrink_in_settled n es k) at m)
      (λ k. (select_mem (stays es) es e (shrink_in_within n (strike stays es) e (rw (shrink_in_again n es k) at m))).0)

  shrink_in_largest : (P : A → Type 0) → ((es : List A) → ((e : A) → P e → Memᴰ e es) → (e : A) → P e → stays es e ≡ true)
      → (n : ℕ) (es : List A) → ((e : A) → P e → Memᴰ e es) → (e : A) → P e → Memᴰ e (shrink_in n stays es)
  unfolding shrink_in strike
  shrink_in_largest P c zero es s e p = s e p
  shrink_in_largest P c (suc n) es s e p =
      cases (eqb (length (strike stays es)) (length es))
      (λ k. rw (shrink_in_settled n es k) (s e p))
      (λ k. rw (shrink_in_again n es k) (shrink_in_largest P c n (strike stays es) (λ x q. mem_select (stays es) es x (s x q) (c es s x q)) e p))

  -- each meets the test in what is left
  pub shrink_closed : (es : List A) → AllStay stays (shrink stays es)
  unfolding shrink
  shrink_closed es = shrink_in_closed (length es) es (omega arith)

  pub shrink_within : (es : List A) → Within (shrink stays es) es
  unfolding shrink
  shrink_within es = shrink_in_within (length es) es

  -- every set lies in it that lies in the given one, and whose elements meet the test in each list that has them all
  pub shrink_has : (P : A → Type 0) → ((es : List A) → ((e : A) → P e → Memᴰ e es) → (e : A) → P e → stays es e ≡ true)
      → (es : List A) → ((e : A) → P e → Memᴰ e es) → (e : A) → P e → Memᴰ e (shrink stays es)
  unfolding shrink
  shrink_has P c es = shrink_in_largest P c (length es) es

  pub shrink_largest : Monotone stays → (es ss : List A) → Within ss es → AllStay stays ss → Within ss (shrink stays es)
  shrink_largest mono es ss s c = shrink_has (λ e. Memᴰ e ss) (λ es' s' e m. mono ss es' s' e (c e m)) es s

-- ---- shrinking commutes with a function under which the test stays
module _ {A B : Type 0} (f : A → B) (stays : List A → A → Bool) (stays₂ : List B → B → Bool) (h : (es : List A) (e : A) → stays₂ (map f es) (f e) ≡ stays es e) where
  strike_map : (es : List A) → strike stays₂ (map f es) ≡ map f (strike stays es)
  unfolding strike
  strike_map es = select_map f (stays es) (stays₂ (map f es)) (h es) es

  shrink_in_map : (n : ℕ) (es : List A) → shrink_in n stays₂ (map f es) ≡ map f (shrink_in n stays es)
  shrink_in_map zero es = unfold shrink_in in refl
  shrink_in_map (suc n) es =
      let same : eqb (length (strike stays₂ (map f es))) (length (map f es)) ≡ eqb (length (strike stays es)) (length es) =
      rw (strike_map es, length-map (strike stays es) f, length-map es f) refl in
      cases (eqb (length (strike stays es)) (length es))
      (λ e. shrink_in_settled stays₂ n (map f es) (same ∙ e) ∙ ap (map f) (sym (shrink_in_settled stays n es e)))
      (λ e.
      shrink_in_again stays₂ n (map f es) (same ∙ e)
      ∙ ap (shrink_in n stays₂) (strike_map es)
      ∙ shrink_in_map n (strike stays es)
      ∙ ap (map f) (sym (shrink_in_again stays n es e)))

  pub shrink_map : (es : List A) → shrink stays₂ (map f es) ≡ map f (shrink stays es)
  unfolding shrink
  shrink_map es = rw (length-map es f) (shrink_in_map (length es) es)

-- ---- 'depends on': a set is closed under it where it is closed under what is listed, and only there
module _ {A : Type 0} {Lists : A → A → Type 0} (P : A → Type 0) where
  pub depends_closed : ((t u : A) → P t → Lists t u → P u) → (t u : A) → P t → DependsOn Lists t u → P u
  depends_closed c t u p (requires_it l) = c t u p l
  depends_closed c t u p (through {u = v} l d) = depends_closed c v u (c t v p l) d

  pub lists_closed : ((t u : A) → P t → DependsOn Lists t u → P u) → (t u : A) → P t → Lists t u → P u
  lists_closed c t u p l = c t u p (requires_it l)

-- ---- the test of names: each name listed is that of one in the set, or counts as met without it (is gone)
module _ {A N : Type 0} (name_of : A → N) where
  -- a transaction of the set has the name
  abbrev pub Named : List A → N → Type 0
  Named es n = (u : A) × Memᴰ u es × (n ≡ name_of u)

  -- no two of the set have one name
  abbrev pub Distinct : List A → Type 0
  Distinct es = (t u : A) → Memᴰ t es → Memᴰ u es → name_of t ≡ name_of u → t ≡ u

module _ {A N : Type 0} (names : A → List N) (name_of : A → N) where
  -- t lists u, which stands in the given list
  abbrev pub ListsIn : List A → A → A → Type 0
  ListsIn es t u = Memᴰ u es × Memᴰ (name_of u) (names t)

  abbrev pub all_named : (N → N → Bool) → (N → Bool) → List A → A → Bool
  all_named same gone es e = all (λ (n : N). gone n || any (λ (u : A). same n (name_of u)) es) (names e)

  module _ (same : N → N → Bool) (same_true : (m n : N) → same m n ≡ true → m ≡ n) (same_refl : (n : N) → same n n ≡ true) (gone : N → Bool) where
    named_each : (es : List A) (e : A) → all_named same gone es e ≡ true → (n : N) → Memᴰ n (names e) → (gone n ≡ true) ⊎ Named name_of es n
    named_each es e h n m =
        elim (or_cases (gone n) (any (λ (u : A). same n (name_of u)) es) (all_mem (λ (n : N). gone n || any (λ (u : A). same n (name_of u)) es) (names e) h m))
        [ inl g ↦ inl g | inr k ↦ inr (let r = any_mem (λ (u : A). same n (name_of u)) es k in (r.0, r.1, same_true n (name_of r.0) r.2)) ]

    each_named : (es : List A) (e : A) → ((n : N) → Memᴰ n (names e) → (gone n ≡ true) ⊎ Named name_of es n) → all_named same gone es e ≡ true
    each_named es e h =
        mem_all (λ (n : N). gone n || any (λ (u : A). same n (name_of u)) es) (names e)
        (λ n m. elim (h n m) [
          | inl g ↦ or_left _ g
          | inr k ↦ or_right (gone n) (mem_any (λ (u : A). same n (name_of u)) k.1 (rw k.2 (same_refl (name_of k.0))))
        ])

    pub named_monotone : Monotone (all_named same gone)
    named_monotone ss es s e h =
        each_named es e (λ n m. elim (named_each ss e h n m) [ inl g ↦ inl g | inr k ↦ inr (k.0, s k.0 k.1, k.2) ])

    -- what is left has each name that one of it lists, save those that are gone
    pub shrunk_names : (es : List A) (t : A) → Memᴰ t (shrink (all_named same gone) es) → (n : N) → Memᴰ n (names t)
        → (gone n ≡ true) ⊎ Named name_of (shrink (all_named same gone) es) n
    shrunk_names es t m = named_each (shrink (all_named same gone) es) t (shrink_closed (all_named same gone) es t m)

    -- and all that one of it depends on, transitively, where none of those given is gone
    pub shrunk_depends : (es : List A) → Distinct name_of es → ((u : A) → Memᴰ u es → gone (name_of u) ≡ false) → (t u : A) → Memᴰ t (shrink (all_named same gone) es)
        → DependsOn (ListsIn es) t u → Memᴰ u (shrink (all_named same gone) es)
    shrunk_depends es one here = depends_closed (λ t. Memᴰ t (shrink (all_named same gone) es)) lists
      where
        lists : (t u : A) → Memᴰ t (shrink (all_named same gone) es) → ListsIn es t u → Memᴰ u (shrink (all_named same gone) es)
        lists t u m l =
            elim (shrunk_names es t m (name_of u) l.1) [
              | inl g ↦ absurd (true≢false (sym g ∙ here u l.0))
              | inr k ↦ Memᴰ.cast (one u k.0 l.0 (shrink_within (all_named same gone) es k.0 k.1) k.2) k.1
            ]
