-- Loops over an index: a test at each index below a count, at some, and an array filled one after another.
-- Each law has the form in which a loop needs it: none, one more, all.
use Rattle.model.proofs.Base.{ℕ, suc, ◌+◌, ◌≤◌, ◌<◌, arith, add-one, ◌≡◌, refl, sym, ap, ◌∙◌, Bool, true, false, ◌&&◌, ◌||◌}
use Rattle.model.proofs.Base.{List, [], ◌∷◌, map, map-append, length, take, set, length-set, take_all, below, any, all}
use mathlib.Core.Bool.{and-true, or-false}
use lib.Seq.{take-suc-set}
use borrow.Author.Rules.{rules}
use Rattle.model.proofs.Lists.{all_append, any_append, all_map, any_map}
use Rattle.layout.specs.Loops.{every, some}

-- ---- a test at each index
-- a test of each element of a list that is given by its index
pub every_map : {A : Type 0} (p : A → Bool) (f : ℕ → A) (n : ℕ) → every n (λ (i : ℕ). p (f i)) ≡ all p (map f (below n))
unfolding every
every_map p f n = sym (all_map f (λ (i : ℕ). p (f i)) p (λ i. refl) (below n))

pub every_none : (p : ℕ → Bool) → every 0 p ≡ true
unfolding every below all
every_none p = refl

pub every_step : (p : ℕ → Bool) (n : ℕ) → every (suc n) p ≡ (every n p && p n)
unfolding every below all
every_step p n = all_append p (below n) (n ∷ []) ∙ ap (λ (b : Bool). every n p && b) (and-true (p n))

pub every_more : (p : ℕ → Bool) (i : ℕ) → every i p ≡ true → p i ≡ true → every (i + 1) p ≡ true
every_more p i h q = rw (add-one, every_step, h, q)

-- ---- a test at some index
pub some_map : {A : Type 0} (p : A → Bool) (f : ℕ → A) (n : ℕ) → some n (λ (i : ℕ). p (f i)) ≡ any p (map f (below n))
unfolding some
some_map p f n = sym (any_map f (λ (i : ℕ). p (f i)) p (λ i. refl) (below n))

pub some_none : (p : ℕ → Bool) → some 0 p ≡ false
unfolding some below any
some_none p = refl

pub some_step : (p : ℕ → Bool) (n : ℕ) → some (suc n) p ≡ (some n p || p n)
unfolding some below any
some_step p n = any_append p (below n) (n ∷ []) ∙ ap (λ (b : Bool). some n p || b) (or-false (p n))

-- ---- an array filled
module _ {A : Type 0} (f : ℕ → A) where
  -- out, of n, has its first i
  pub record Filled (n : ℕ) (out : List A) (i : ℕ) : Type 0 where
    pub most : i ≤ n
    pub size : length out ≡ n
    pub same : take i out ≡ map f (below i)

  pub filled_none : (n : ℕ) (out : List A) → length out ≡ n → Filled n out 0
  unfolding below
  filled_none n out h = record { most = omega arith; size = h; same = refl }

  pub filled_more : (n : ℕ) (out : List A) (i : ℕ) (x : A) → Filled n out i → x ≡ f i → i < n → Filled n (set out i x) (i + 1)
  unfolding below
  filled_more n out i x w e h =
      record {
        most = omega arith;
        size = length-set out i x ∙ w.size;
        same = rw (add-one, take-suc-set out i x (omega (arith, w.size)), below, map-append, w.same, e);
      }

  pub filled_all : (n : ℕ) (out : List A) (i : ℕ) → Filled n out i → n ≤ i → out ≡ map f (below n)
  filled_all n out i w h =
      let e : i ≡ n = omega (arith, w.most) in
      sym (take_all i out (omega (arith, w.size))) ∙ w.same ∙ ap (λ (k : ℕ). map f (below k)) e

pub ruleset filled = (rules, filled_none, filled_more, filled_all)
