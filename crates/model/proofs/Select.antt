-- Those of a list that meet a test: which elements they are, and how many; under `++`, with one in its place, and of images.
use Prim.Native.Nat.{suc, ◌≤◌}
use native.Mathlib.Omega.{arith}
use mathlib.Core.Path.{◌≡◌, refl, sym, ap, ◌∙◌}
use mathlib.Core.Logic.{inl, inr}
use mathlib.Core.Bool.{Bool, true, false}
use mathlib.Core.List.Memᴰ
use mathlib.Core.List.{List, [], ◌∷◌, ◌++◌, map, Memᴰ}
use lib.ListN.{length}
use Rattle.model.specs.Lists.{select}
use Rattle.model.proofs.Lists.{cases}

module _ {A : Type 0} (p : A → Bool) where
  select_yes : (x : A) (xs : List A) → p x ≡ true → select p (x ∷ xs) ≡ x ∷ select p xs
  unfolding select
  select_yes x xs h = rw h

  select_no : (x : A) (xs : List A) → p x ≡ false → select p (x ∷ xs) ≡ select p xs
  unfolding select
  select_no x xs h = rw h

  pub select_length : (xs : List A) → length (select p xs) ≤ length xs
  unfolding select
  select_length [] = omega arith
  select_length (y ∷ ys) =
      cases (p y)
      (λ h. rw (select_yes y ys h) (omega (arith, select_length ys)))
      (λ h. rw (select_no y ys h) (omega (arith, select_length ys)))

  pub mem_select : (xs : List A) (x : A) → Memᴰ x xs → p x ≡ true → Memᴰ x (select p xs)
  mem_select [] x m h = absurd (Memᴰ.not-nil m)
  mem_select (y ∷ ys) x (Memᴰ.head e) h = rw (select_yes y ys (ap p (sym e) ∙ h)) (Memᴰ.head e)
  mem_select (y ∷ ys) x (Memᴰ.tail m) h =
      cases (p y)
      (λ k. rw (select_yes y ys k) (Memᴰ.tail (mem_select ys x m h)))
      (λ k. rw (select_no y ys k) (mem_select ys x m h))

  pub select_mem : (xs : List A) (x : A) → Memᴰ x (select p xs) → Memᴰ x xs × (p x ≡ true)
  unfolding select
  select_mem [] x m = absurd (Memᴰ.not-nil m)
  select_mem (y ∷ ys) x m =
      cases (p y)
      (λ k. elim (Memᴰ.cases_cons (rw (select_yes y ys k) at m)) [
        | inl e ↦ (Memᴰ.head e, ap p e ∙ k)
        | inr n ↦ let r = select_mem ys x n in (Memᴰ.tail r.0, r.1)
      ])
      (λ k. let r = select_mem ys x (rw (select_no y ys k) at m) in (Memᴰ.tail r.0, r.1))

  -- where none goes, all meet the test; where all meet it, none goes
  pub select_all : (xs : List A) → length (select p xs) ≡ length xs → (x : A) → Memᴰ x xs → p x ≡ true
  select_all [] h x m = absurd (Memᴰ.not-nil m)
  select_all (y ∷ ys) h x m =
      cases (p y)
      (λ k. let l : suc (length (select p ys)) ≡ suc (length ys) = sym (ap length (select_yes y ys k)) ∙ h in
      elim (Memᴰ.cases_cons m) [ inl e ↦ ap p e ∙ k | inr n ↦ select_all ys (omega arith) x n ])
      (λ k. let l : length (select p ys) ≡ suc (length ys) = sym (ap length (select_no y ys k)) ∙ h in absurd (omega (arith, select_length ys)))

  pub select_same : (xs : List A) → ((x : A) → Memᴰ x xs → p x ≡ true) → select p xs ≡ xs
  unfolding select
  select_same [] f = refl
  select_same (y ∷ ys) f = select_yes y ys (f y (Memᴰ.head refl)) ∙ ap (λ (l : List A). y ∷ l) (select_same ys (λ x m. f x (Memᴰ.tail m)))

  pub select_append : (xs ys : List A) → select p (xs ++ ys) ≡ select p xs ++ select p ys
  unfolding select
  select_append [] ys = refl
  select_append (x ∷ xs) ys = cases (p x) (λ e. rw e (ap (λ (l : List A). x ∷ l) (select_append xs ys))) (λ e. rw e (select_append xs ys))

  -- one that meets it in its place, and one that does not
  pub select_in : (xs ys : List A) (x : A) → p x ≡ true → select p (xs ++ (x ∷ ys)) ≡ select p xs ++ (x ∷ select p ys)
  select_in xs ys x h = select_append xs (x ∷ ys) ∙ ap (λ (l : List A). select p xs ++ l) (select_yes x ys h)

  pub select_out : (xs ys : List A) (x : A) → p x ≡ false → select p (xs ++ (x ∷ ys)) ≡ select p xs ++ select p ys
  select_out xs ys x h = select_append xs (x ∷ ys) ∙ ap (λ (l : List A). select p xs ++ l) (select_no x ys h)

-- the images of those that meet the test are those images that meet theirs
pub select_map : {A B : Type 0} (f : A → B) (p : A → Bool) (q : B → Bool) → ((x : A) → q (f x) ≡ p x) → (xs : List A) → select q (map f xs) ≡ map f (select p xs)
unfolding select
select_map f p q h [] = refl
select_map f p q h (x ∷ xs) =
    cases (p x) (λ e. rw (h x, e) (ap (λ (l : List _). f x ∷ l) (select_map f p q h xs))) (λ e. rw (h x, e) (select_map f p q h xs))
