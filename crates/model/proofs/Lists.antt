-- What the tests of lists say of their elements, the numbers below a count, and a property of each element.
-- The definitions test lists by Bool; the laws turn such a test into facts on elements and back.
use Prim.Native.Nat.{ℕ, zero, suc, ◌≤◌, ◌<◌}
use native.Mathlib.Omega.{arith}
use native.Mathlib.Decide.{dec_lt}
use mathlib.Core.Path.{◌≡◌, refl, ap, ap₂, ◌∙◌, sym, subst}
use mathlib.Core.Bool.{Bool, true, false, false≢true, ◌&&◌, ◌||◌, and_assoc, or_assoc}
use mathlib.Core.Logic.{◌⊎◌, inl, inr}
use mathlib.Core.List.Memᴰ
use mathlib.Core.List.{List, [], ◌∷◌, ◌++◌, map, flat_map, append_assoc, Memᴰ, map-append}
use lib.ListN.{length, take, get_or, replicate, length-append, length-map, get_or-append}
use lib.Seq.{get_or_at}
use Rattle.model.specs.Lists.{below, all, any, Each}

-- ---- Bool: both cases with what is known in each, two tests that go together, and, or
pub cases : {A : Type 0} (t : Bool) → (t ≡ true → A) → (t ≡ false → A) → A
cases true f g = f refl
cases false f g = g refl

pub bool_ext : {a b : Bool} → (a ≡ true → b ≡ true) → (b ≡ true → a ≡ true) → a ≡ b
bool_ext {a} {b} f g = cases a (λ h. h ∙ sym (f h)) (λ h. cases b (λ k. g k ∙ sym k) (λ k. h ∙ sym k))

pub and_both : {a b : Bool} → a ≡ true → b ≡ true → (a && b) ≡ true
and_both p q = rw (p, q)

pub and_left : (a b : Bool) → (a && b) ≡ true → a ≡ true
and_left true b h = refl
and_left false b h = h

pub and_right : (a b : Bool) → (a && b) ≡ true → b ≡ true
and_right true b h = h
and_right false b h = absurd (false≢true h)

pub or_left : {a : Bool} (b : Bool) → a ≡ true → (a || b) ≡ true
or_left b p = rw p

pub or_right : (a : Bool) {b : Bool} → b ≡ true → (a || b) ≡ true
or_right true q = refl
or_right false q = q

pub or_cases : (a b : Bool) → (a || b) ≡ true → (a ≡ true) ⊎ (b ≡ true)
or_cases true b h = inl refl
or_cases false b h = inr h

pub or_none : (a b : Bool) → (a || b) ≡ false → (a ≡ false) × (b ≡ false)
or_none true b h = absurd (false≢true (sym h))
or_none false b h = (refl, h)

-- ---- all, any
module _ {A : Type 0} (p : A → Bool) where
  pub all_mem : (xs : List A) → all p xs ≡ true → {x : A} → Memᴰ x xs → p x ≡ true
  unfolding all
  all_mem [] h m = absurd (Memᴰ.not-nil m)
  all_mem (y ∷ ys) h {x} m =
      elim (Memᴰ.cases_cons m) [ inl e ↦ ap p e ∙ and_left (p y) (all p ys) h | inr t ↦ all_mem ys (and_right (p y) (all p ys) h) t ]

  pub mem_all : (xs : List A) → ((x : A) → Memᴰ x xs → p x ≡ true) → all p xs ≡ true
  unfolding all
  mem_all [] h = refl
  mem_all (y ∷ ys) h = and_both (h y (Memᴰ.head refl)) (mem_all ys (λ x m. h x (Memᴰ.tail m)))

  pub any_mem : (xs : List A) → any p xs ≡ true → (x : A) × Memᴰ x xs × (p x ≡ true)
  unfolding any
  any_mem [] h = absurd (false≢true h)
  any_mem (y ∷ ys) h =
      elim (or_cases (p y) (any p ys) h)
      [ inl e ↦ (y, Memᴰ.head refl, e) | inr t ↦ let r = any_mem ys t in (r.0, Memᴰ.tail r.1, r.2) ]

  pub mem_any : {x : A} {xs : List A} → Memᴰ x xs → p x ≡ true → any p xs ≡ true
  unfolding any
  mem_any (Memᴰ.head {xs = ys} e) h = or_left (any p ys) (ap p (sym e) ∙ h)
  mem_any (Memᴰ.tail {x = y} m) h = or_right (p y) (mem_any m h)

  pub all_append : (xs ys : List A) → all p (xs ++ ys) ≡ (all p xs && all p ys)
  unfolding all
  all_append [] ys = refl
  all_append (x ∷ xs) ys = ap (λ (b : Bool). p x && b) (all_append xs ys) ∙ sym (and_assoc (p x) (all p xs) (all p ys))

  pub any_append : (xs ys : List A) → any p (xs ++ ys) ≡ (any p xs || any p ys)
  unfolding any
  any_append [] ys = refl
  any_append (x ∷ xs) ys = ap (λ (b : Bool). p x || b) (any_append xs ys) ∙ sym (or_assoc (p x) (any p xs) (any p ys))

module _ {A B : Type 0} (f : A → B) (p : A → Bool) (q : B → Bool) (h : (x : A) → q (f x) ≡ p x) where
  pub all_map : (xs : List A) → all q (map f xs) ≡ all p xs
  unfolding all
  all_map [] = refl
  all_map (x ∷ xs) = rw (h x, all_map xs) refl

  pub any_map : (xs : List A) → any q (map f xs) ≡ any p xs
  unfolding any
  any_map [] = refl
  any_map (x ∷ xs) = rw (h x, any_map xs) refl

module _ {A : Type 0} where
  pub get_or_mem : (xs : List A) (i : ℕ) (d : A) → i < length xs → Memᴰ (get_or xs i d) xs
  get_or_mem [] i d h = absurd (omega arith)
  get_or_mem (x ∷ xs) zero d h = Memᴰ.head refl
  get_or_mem (x ∷ xs) (suc i) d h = Memᴰ.tail (get_or_mem xs i d (omega arith))

  pub mem_get_or : {x : A} {xs : List A} → Memᴰ x xs → (d : A) → (i : ℕ) × (i < length xs) × (get_or xs i d ≡ x)
  mem_get_or (Memᴰ.head e) d = (0, omega arith, sym e)
  mem_get_or (Memᴰ.tail m) d = let r = mem_get_or m d in (suc r.0, omega (arith, r.1), r.2)

module _ {A B : Type 0} where
  pub get_or_map : (f : A → B) (xs : List A) (i : ℕ) (a : A) (b : B) → i < length xs → get_or (map f xs) i b ≡ f (get_or xs i a)
  get_or_map f [] i a b h = absurd (omega arith)
  get_or_map f (x ∷ xs) zero a b h = refl
  get_or_map f (x ∷ xs) (suc i) a b h = get_or_map f xs i a b (omega arith)

  pub map_same : (f g : A → B) (xs : List A) → ((x : A) → Memᴰ x xs → f x ≡ g x) → map f xs ≡ map g xs
  map_same f g [] h = refl
  map_same f g (x ∷ xs) h = ap₂ ◌∷◌ (h x (Memᴰ.head refl)) (map_same f g xs (λ y m. h y (Memᴰ.tail m)))

  pub flat_map_same : (f g : A → List B) (xs : List A) → ((x : A) → Memᴰ x xs → f x ≡ g x) → flat_map f xs ≡ flat_map g xs
  unfolding flat_map
  flat_map_same f g [] h = refl
  flat_map_same f g (x ∷ xs) h = ap₂ ◌++◌ (h x (Memᴰ.head refl)) (flat_map_same f g xs (λ y m. h y (Memᴰ.tail m)))

  pub flat_map_append : (f : B → List A) (xs ys : List B) → flat_map f (xs ++ ys) ≡ flat_map f xs ++ flat_map f ys
  unfolding flat_map
  flat_map_append f [] ys = refl
  flat_map_append f (x ∷ xs) ys = ap (λ (l : List A). f x ++ l) (flat_map_append f xs ys) ∙ sym (append_assoc (f x) (flat_map f xs) (flat_map f ys))

  pub mem_flat_map : (f : B → List A) (xs : List B) {y : A} → Memᴰ y (flat_map f xs) → (x : B) × Memᴰ x xs × Memᴰ y (f x)
  unfolding flat_map
  mem_flat_map f [] m = absurd (Memᴰ.not-nil m)
  mem_flat_map f (x ∷ xs) m =
      elim (Memᴰ.append_cases (f x) m)
      [ inl l ↦ (x, Memᴰ.head refl, l) | inr r ↦ let t = mem_flat_map f xs r in (t.0, Memᴰ.tail t.1, t.2) ]

  pub flat_map_mem : (f : B → List A) {x : B} {xs : List B} {y : A} → Memᴰ x xs → Memᴰ y (f x) → Memᴰ y (flat_map f xs)
  unfolding flat_map
  flat_map_mem f {y = y} (Memᴰ.head {xs = xs} e) m = Memᴰ.append_left (flat_map f xs) (subst (λ (b : B). Memᴰ y (f b)) e m)
  flat_map_mem f (Memᴰ.tail {x = x} t) m = Memᴰ.append_right (f x) (flat_map_mem f t m)

-- ---- the numbers below a count
pub length_below : (n : ℕ) → length (below n) ≡ n
unfolding below
length_below zero = refl
length_below (suc n) = length-append (below n) (n ∷ []) ∙ omega (arith, length_below n)

pub mem_below : (n : ℕ) {i : ℕ} → Memᴰ i (below n) → i < n
unfolding below
mem_below zero m = absurd (Memᴰ.not-nil m)
mem_below (suc n) m =
    elim (Memᴰ.append_cases (below n) m)
    [ inl l ↦ omega (arith, mem_below n l) | inr r ↦ omega (arith, Memᴰ.eq_of_singleton r) ]

pub below_mem : (n i : ℕ) → i < n → Memᴰ i (below n)
unfolding below
below_mem zero i h = absurd (omega arith)
below_mem (suc n) i h =
    elim (dec_lt i n) [
      | yes lt ↦ Memᴰ.append_left (n ∷ []) (below_mem n i lt)
      | no ge ↦ Memᴰ.append_right (below n) (Memᴰ.head (omega arith))
    ]

module _ {A : Type 0} where
  pub map_below : (f g : ℕ → A) (n : ℕ) → ((i : ℕ) → i < n → f i ≡ g i) → map f (below n) ≡ map g (below n)
  map_below f g n h = map_same f g (below n) (λ i m. h i (mem_below n m))

  pub flat_map_below : (f g : ℕ → List A) (n : ℕ) → ((i : ℕ) → i < n → f i ≡ g i) → flat_map f (below n) ≡ flat_map g (below n)
  flat_map_below f g n h = flat_map_same f g (below n) (λ i m. h i (mem_below n m))

  -- the first of them apart
  pub flat_map_first : (f : ℕ → List A) (n : ℕ) → flat_map f (below (suc n)) ≡ f 0 ++ flat_map (λ (i : ℕ). f (suc i)) (below n)
  unfolding below flat_map
  flat_map_first f zero = refl
  flat_map_first f (suc n) =
      flat_map_append f (below (suc n)) (suc n ∷ [])
      ∙ ap (λ (x : List A). x ++ (f (suc n) ++ [])) (flat_map_first f n)
      ∙ append_assoc (f 0) (flat_map (λ (i : ℕ). f (suc i)) (below n)) (f (suc n) ++ [])
      ∙ ap (λ (x : List A). f 0 ++ x) (sym (flat_map_append (λ (i : ℕ). f (suc i)) (below n) (n ∷ [])))

  pub get_or_map_below : (f : ℕ → A) (n i : ℕ) (d : A) → i < n → get_or (map f (below n)) i d ≡ f i
  unfolding below
  get_or_map_below f zero i d h = absurd (omega arith)
  get_or_map_below f (suc n) i d h =
      let l : length (map f (below n)) ≡ n = length-map (below n) f ∙ length_below n in
      ap (λ (l : List A). get_or l i d) (map-append f (below n) (n ∷ []))
      ∙ elim (dec_lt i n) [
        | yes lt ↦ get_or-append (map f (below n)) (f n ∷ []) d i (omega arith) ∙ get_or_map_below f n i d lt
        | no ge ↦ let e : n ≡ i = omega arith in get_or_at (map f (below n)) (f n) [] d i (l ∙ e) ∙ ap f e
      ]

  -- ---- each element of a list has the property
  pub each_append : (P : A → Type 0) (xs ys : List A) → Each P xs → Each P ys → Each P (xs ++ ys)
  each_append P [] ys a b = b
  each_append P (x ∷ xs) ys a b = (a.0, each_append P xs ys a.1 b)

  pub each_get_or : (P : A → Type 0) (xs : List A) → Each P xs → (i : ℕ) (d : A) → i < length xs → P (get_or xs i d)
  each_get_or P [] a i d h = absurd (omega arith)
  each_get_or P (x ∷ xs) a zero d h = a.0
  each_get_or P (x ∷ xs) a (suc i) d h = each_get_or P xs a.1 i d (omega arith)

  pub get_or_each : (P : A → Type 0) (xs : List A) (d : A) → ((i : ℕ) → i < length xs → P (get_or xs i d)) → Each P xs
  get_or_each P [] d h = tt
  get_or_each P (x ∷ xs) d h = (h 0 (omega arith), get_or_each P xs d (λ i l. h (suc i) (omega arith)))

  pub mem_each : (P : A → Type 0) (xs : List A) → ((x : A) → Memᴰ x xs → P x) → Each P xs
  mem_each P [] h = tt
  mem_each P (x ∷ xs) h = (h x (Memᴰ.head refl), mem_each P xs (λ y m. h y (Memᴰ.tail m)))

  pub each_replicate : (P : A → Type 0) (n : ℕ) (x : A) → P x → Each P (replicate n x)
  each_replicate P zero x h = tt
  each_replicate P (suc n) x h = (h, each_replicate P n x h)

  pub each_take : (P : A → Type 0) (n : ℕ) (xs : List A) → Each P xs → Each P (take n xs)
  each_take P zero xs a = tt
  each_take P (suc n) [] a = tt
  each_take P (suc n) (x ∷ xs) a = (a.0, each_take P n xs a.1)

-- ---- numbers
-- what holds of a number holds of all earlier ones down to the first, if it holds of each number where it holds of the next
pub all_earlier : (P : ℕ → Type 0) (first : ℕ) → ((n : ℕ) → first ≤ n → P (suc n) → P n) → (n m : ℕ) → first ≤ n → n ≤ m → P m → P n
all_earlier P first before n zero h l p = let e : 0 ≡ n = omega arith in subst P e p
all_earlier P first before n (suc m) h l p =
    elim (dec_lt m n) [
      | yes g ↦ (let e : suc m ≡ n = omega arith in subst P e p)
      | no g ↦ all_earlier P first before n m h (omega arith) (before m (omega arith) p)
    ]
