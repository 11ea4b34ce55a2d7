-- A fact of each element of a list, and a relation between each and all that follow: under `++`, `map` and `select`, and from other ones.
use mathlib.Core.Path.{◌≡◌, refl, sym, subst}
use mathlib.Core.Bool.{Bool, true}
use mathlib.Core.List.Memᴰ
use mathlib.Core.List.{List, [], ◌∷◌, ◌++◌, map, Memᴰ}
use Rattle.model.specs.Lists.{select, Each, Pairs}
use Rattle.model.proofs.Lists.{cases, mem_each, each_append}

module _ {A : Type 0} where
  pub each_mem : (P : A → Type 0) {xs : List A} → Each P xs → {x : A} → Memᴰ x xs → P x
  each_mem P {xs = []} a m = absurd (Memᴰ.not-nil m)
  each_mem P {xs = y ∷ ys} a (Memᴰ.head e) = subst P (sym e) a.0
  each_mem P {xs = y ∷ ys} a (Memᴰ.tail m) = each_mem P {xs = ys} a.1 m

  pub each_so : (P Q : A → Type 0) (xs : List A) → ((x : A) → P x → Q x) → Each P xs → Each Q xs
  each_so P Q [] h a = tt
  each_so P Q (x ∷ xs) h a = (h x a.0, each_so P Q xs h a.1)

  pub each_both : (P Q R : A → Type 0) (xs : List A) → ((x : A) → P x → Q x → R x) → Each P xs → Each Q xs → Each R xs
  each_both P Q R [] h a b = tt
  each_both P Q R (x ∷ xs) h a b = (h x a.0 b.0, each_both P Q R xs h a.1 b.1)

  pub each_left : (P : A → Type 0) (xs ys : List A) → Each P (xs ++ ys) → Each P xs
  each_left P [] ys a = tt
  each_left P (x ∷ xs) ys a = (a.0, each_left P xs ys a.1)

  pub each_right : (P : A → Type 0) (xs ys : List A) → Each P (xs ++ ys) → Each P ys
  each_right P [] ys a = a
  each_right P (x ∷ xs) ys a = each_right P xs ys a.1

  -- of those that meet a test it is enough to know it where they meet it
  pub each_select : (P : A → Type 0) (p : A → Bool) (xs : List A) → Each (λ (x : A). p x ≡ true → P x) xs → Each P (select p xs)
  unfolding select
  each_select P p [] a = tt
  each_select P p (x ∷ xs) a = cases (p x) (λ h. rw h (a.0 h, each_select P p xs a.1)) (λ h. rw h (each_select P p xs a.1))

module _ {A B : Type 0} (P : B → Type 0) (f : A → B) where
  pub each_map : (xs : List A) → Each (λ (x : A). P (f x)) xs → Each P (map f xs)
  each_map [] a = tt
  each_map (x ∷ xs) a = (a.0, each_map xs a.1)

-- ---- pairs
module _ {A : Type 0} where
  pub pairs_of : (R : A → A → Type 0) (xs : List A) → ((x y : A) → R x y) → Pairs R xs
  pairs_of R [] h = tt
  pairs_of R (x ∷ xs) h = (mem_each (R x) xs (λ y m. h x y), pairs_of R xs h)

  pub pairs_so : (R S : A → A → Type 0) (xs : List A) → ((x y : A) → Memᴰ x xs → Memᴰ y xs → R x y → S x y) → Pairs R xs → Pairs S xs
  pairs_so R S [] h p = tt
  pairs_so R S (x ∷ xs) h p = (
    mem_each (S x) xs (λ y m. h x y (Memᴰ.head refl) (Memᴰ.tail m) (each_mem (R x) p.0 m)),
    pairs_so R S xs (λ a b m n. h a b (Memᴰ.tail m) (Memᴰ.tail n)) p.1,
  )

  pub pairs_append : (R : A → A → Type 0) (xs ys : List A) → Pairs R xs → Pairs R ys → ((x y : A) → Memᴰ x xs → Memᴰ y ys → R x y) → Pairs R (xs ++ ys)
  pairs_append R [] ys p q h = q
  pairs_append R (x ∷ xs) ys p q h = (
    each_append (R x) xs ys p.0 (mem_each (R x) ys (λ y m. h x y (Memᴰ.head refl) m)),
    pairs_append R xs ys p.1 q (λ a b m n. h a b (Memᴰ.tail m) n),
  )

  pub pairs_select : (R : A → A → Type 0) (p : A → Bool) (xs : List A) → Pairs R xs → Pairs R (select p xs)
  unfolding select
  pairs_select R p [] h = tt
  pairs_select R p (x ∷ xs) h =
      let first : Each (R x) (select p xs) = each_select (R x) p xs (each_so (R x) (λ (y : A). p y ≡ true → R x y) xs (λ y r e. r) h.0) in
      let rest = pairs_select R p xs h.1 in
      cases (p x) (λ e. rw e (first, rest)) (λ e. rw e rest)

pub pairs_map : {A B : Type 0} (R : B → B → Type 0) (f : A → B) (xs : List A) → Pairs (λ (x y : A). R (f x) (f y)) xs → Pairs R (map f xs)
pairs_map R f [] p = tt
pairs_map R f (x ∷ xs) p = (each_map (R (f x)) f xs p.0, pairs_map R f xs p.1)
