-- Lists, where the library has no word: the numbers below a count, tests and facts of the elements, their sum, and sorting by a key.
use Rattle.std.specs.Prelude.{ℕ, zero, suc, ◌+◌, List, [], ◌∷◌, ◌++◌, Bool, true, false, cond, ◌&&◌, ◌||◌, ltb}

-- the numbers below n, ascending
unfoldable pub below : ℕ → List ℕ
below zero = []
below (suc n) = below n ++ (n ∷ [])

module _ {A : Type 0} where
  -- each element meets the test
  unfoldable pub all : (A → Bool) → List A → Bool
  all p [] = true
  all p (x ∷ xs) = p x && all p xs

  -- some element meets the test
  unfoldable pub any : (A → Bool) → List A → Bool
  any p [] = false
  any p (x ∷ xs) = p x || any p xs

  -- those that meet the test, in their order
  unfoldable pub select : (A → Bool) → List A → List A
  select p [] = []
  select p (x ∷ xs) = cond (p x) (x ∷ select p xs) (select p xs)

  -- of each element a fact
  abbrev pub Each : (A → Type 0) → List A → Type 0
  Each P [] = Unit {0}
  Each P (x ∷ xs) = P x × Each P xs

  -- a relation holds between each and all that follow it
  abbrev pub Pairs : (A → A → Type 0) → List A → Type 0
  Pairs R [] = Unit {0}
  Pairs R (x ∷ xs) = Each (R x) xs × Pairs R xs

  -- the sum of a number of each
  unfoldable pub total : (A → ℕ) → List A → ℕ
  total f [] = 0
  total f (x ∷ xs) = f x + total f xs

  -- one put in before the first of a higher key
  unfoldable pub insert_by : (A → ℕ) → A → List A → List A
  insert_by key x [] = x ∷ []
  insert_by key x (y ∷ ys) = cond (ltb (key x) (key y)) (x ∷ y ∷ ys) (y ∷ insert_by key x ys)

  -- those given put in one after another, each behind those of an equal key
  unfoldable pub sort_into : (A → ℕ) → List A → List A → List A
  sort_into key done [] = done
  sort_into key done (x ∷ xs) = sort_into key (insert_by key x done) xs

  -- sorted by a key, those of equal keys in their order
  unfoldable pub sort_by : (A → ℕ) → List A → List A
  sort_by key xs = sort_into key [] xs
