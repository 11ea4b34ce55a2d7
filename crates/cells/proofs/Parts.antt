-- A test of a list's first elements grows by one element and ends with all; an array filled in a loop is the mapped list. How
-- many blocks a transaction has.
use Rattle.model.proofs.Base.{ℕ, zero, suc, ◌+◌, ◌≤◌, ◌<◌, min, arith, add-one, ◌≡◌, refl, sym, ap, ◌∙◌, Bool, true, false, List}
use Rattle.model.proofs.Base.{[], ◌∷◌, ◌++◌, map, append-nil, length, take, drop, get_or, set, length-take, take_all}
use Rattle.model.proofs.Base.{take-suc, get_or-take, eq-eqb, ne_eqb, lt-ltb, le-ltb, le-leb, lt-leb, not-true}
use Rattle.model.proofs.Base.{not-false, any}
use lib.ListN.{drop_of_length-le}
use borrow.Author.Rules.{rules}
use Rattle.model.specs.Card.{taken}
use Rattle.model.specs.declared.Transaction.{Transaction}
use Rattle.model.proofs.Lists.{any_append, mem_any, get_or_mem}
use Rattle.layout.proofs.Pairs.{length_mapped}

-- the value of a test from the fact that the code's branch tells
pub ruleset tests = (le-leb, lt-leb, lt-ltb, le-ltb, eq-eqb, ne_eqb, not-true, not-false)

-- a field that is an array of structs is known by the list of its elements' images
pub ruleset facts = (rules, length_mapped)

module _ {A : Type 0} where
  -- a search through the first n elements
  module _ (p : A → Bool) (l : List A) (n i : ℕ) (h : i < length (take n l)) where
    below_length : (i < n) × (i < length l)
    below_length = let q : i < min n (length l) = rw (length-take n l) at h in (omega arith, omega arith)

    pub any_hit : (d : A) → p (get_or l i d) ≡ true → any p (take n l) ≡ true
    any_hit d e =
        mem_any p (get_or_mem (take n l) i d h) (ap p (get_or-take n l i d below_length.0) ∙ e)

    pub any_more : (d : A) → any p (take i (take n l)) ≡ false → p (get_or l i d) ≡ false → any p (take (i + 1) (take n l)) ≡ false
    unfolding any
    any_more d q e = rw (add-one, take-suc (take n l) i d h, any_append, q, get_or-take n l i d below_length.0, e)

  pub any_none : (p : A → Bool) (l : List A) → any p (take 0 l) ≡ false
  unfolding any
  any_none p l = refl

  pub any_all : (p : A → Bool) (l : List A) (i : ℕ) → any p (take i l) ≡ false → length l ≤ i → any p l ≡ false
  any_all p l i h e = ap (any p) (sym (take_all i l e)) ∙ h

-- ---- an array filled from another, element by element
module _ {A B : Type 0} (f : A → B) where
  -- the first i elements made, the others as they were
  unfoldable pub filled : ℕ → List A → List B → List B
  filled i l ks = map f (take i l) ++ drop i ks

  pub filled_none : (l : List A) (ks : List B) → ks ≡ filled 0 l ks
  unfolding filled
  filled_none l ks = refl

  pub filled_more : (i : ℕ) (l : List A) (ks : List B) (d : A) → i < length l → length ks ≡ length l → set (filled i l ks) i (f (get_or l i d)) ≡ filled (i + 1) l ks
  unfolding filled
  filled_more i [] ks d h e = absurd (omega arith)
  filled_more i (x ∷ l) [] d h e = absurd (omega arith)
  filled_more zero (x ∷ l) (k ∷ ks) d h e = refl
  filled_more (suc i) (x ∷ l) (k ∷ ks) d h e =
      let q : suc i + 1 ≡ suc (i + 1) = omega arith in
      rw q (ap {B = List B} (λ r. f x ∷ r) (filled_more i l ks d (omega arith) (omega arith)))

  pub filled_all : (i : ℕ) (l : List A) (ks : List B) → length ks ≡ length l → length l ≤ i → filled i l ks ≡ map f l
  unfolding filled
  filled_all i l ks e h = rw (take_all i l h, drop_of_length-le ks (let g : length ks ≤ i = omega arith in g), append-nil)

-- ---- a transaction's blocks: a count above the array's length counts as its length
module _ (t : Transaction) where
  pub took_all : length t.blocks ≡ 8 → 8 ≤ t.count → 8 ≡ length (taken t)
  unfolding taken
  took_all n h = sym (length-take t.count t.blocks ∙ omega arith)

  pub took_some : length t.blocks ≡ 8 → t.count ≤ 8 → t.count ≡ length (taken t)
  unfolding taken
  took_some n h = sym (length-take t.count t.blocks ∙ omega arith)
