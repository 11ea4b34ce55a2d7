-- The sum of a number of each element: under `++` and of images, of two numbers of each, and compared element by element.
use Prim.Native.Nat.{ℕ, ◌+◌, ◌≤◌}
use native.Mathlib.Omega.{arith}
use mathlib.Core.Path.{◌≡◌, refl, ap₂}
use mathlib.Core.List.{List, [], ◌∷◌, ◌++◌, map}
use Rattle.model.specs.Lists.{total, Each}

module _ {A : Type 0} where
  pub total_append : (f : A → ℕ) (xs ys : List A) → total f (xs ++ ys) ≡ total f xs + total f ys
  unfolding total
  total_append f [] ys = omega arith
  total_append f (x ∷ xs) ys = omega (arith, total_append f xs ys)

  pub total_last : (f : A → ℕ) (xs : List A) (x : A) → total f (xs ++ (x ∷ [])) ≡ total f xs + f x
  unfolding total
  total_last f xs x = omega (arith, total_append f xs (x ∷ []))

  pub total_sum : (f g : A → ℕ) (xs : List A) → total (λ (x : A). f x + g x) xs ≡ total f xs + total g xs
  unfolding total
  total_sum f g [] = omega arith
  total_sum f g (x ∷ xs) = omega (arith, total_sum f g xs)

  pub total_le : (f g : A → ℕ) (xs : List A) → Each (λ (x : A). f x ≤ g x) xs → total f xs ≤ total g xs
  unfolding total
  total_le f g [] a = omega arith
  total_le f g (x ∷ xs) a = omega (arith, a.0, total_le f g xs a.1)

  pub total_same : (f g : A → ℕ) (xs : List A) → Each (λ (x : A). f x ≡ g x) xs → total f xs ≡ total g xs
  unfolding total
  total_same f g [] a = refl
  total_same f g (x ∷ xs) a = ap₂ ◌+◌ a.0 (total_same f g xs a.1)

pub total_map : {A B : Type 0} (f : A → B) (p : A → ℕ) (q : B → ℕ) → ((x : A) → q (f x) ≡ p x) → (xs : List A) → total q (map f xs) ≡ total p xs
unfolding total
total_map f p q h [] = refl
total_map f p q h (x ∷ xs) = ap₂ ◌+◌ (h x) (total_map f p q h xs)
