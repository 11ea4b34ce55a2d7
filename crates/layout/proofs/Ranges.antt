-- A chain of an iterator over the indices below a number, by the words for a test at each index, and at some.
use Rattle.model.proofs.Base.{ℕ, zero, suc, ◌+◌, ◌≡◌, refl, ap, ◌∙◌, Bool, ◌&&◌, ◌||◌, List, [], ◌∷◌, ◌++◌, below, any, all}
use Rattle.std.proofs.Common.{add-zero, arith}
use Rattle.std.specs.Fn.{Called}
use Rattle.std.specs.Iterator.{YieldsThen}
use Rattle.std.specs.List.{FoldsTo, range_with_len, list_all, list_any}
use Rattle.std.specs.Option.{MatchOption}
use Rattle.std.proofs.iter.Yields.{nat_range_steps}
use Rattle.std.proofs.lemmas.Iterator.{YieldsList-from_range}
use Rattle.std.proofs.lemmas.Iterator.Search.{all_from_yields_List, any_from_yields_List}
use Rattle.std.specs.Prelude.{Option, true, false}
use Rattle.std.specs.declared.ops.Range.{Range}
use denote.Param.Members.{Mut}
use Rattle.model.proofs.Base.{◌<◌, sym, subst, length, get_or, map, length-map}
use Rattle.model.proofs.Lists.{length_below, get_or_map_below}
use Rattle.std.specs.Array.{IsFromFnResultFrom, IsFromFnResult}
use Rattle.std.proofs.lemmas.List.{same_lists}
use Rattle.layout.specs.Loops.{every, some}

-- the numbers of a range, one more
range_more : (a n : ℕ) → range_with_len a (suc n) ≡ range_with_len a n ++ (a + n) ∷ []
range_more a zero = simp add-zero
range_more a (suc n) = ap (λ (xs : List ℕ). a ∷ xs) (range_more (a + 1) n ∙ ap (λ (k : ℕ). range_with_len (a + 1) n ++ k ∷ []) (omega arith))

pub range_below : (n : ℕ) → range_with_len 0 n ≡ below n
unfolding below
range_below zero = refl
range_below (suc n) =
    range_more 0 n
    ∙ (ap (λ (xs : List ℕ). xs ++ (0 + n) ∷ []) (range_below n) ∙ ap (λ (k : ℕ). below n ++ k ∷ []) (omega arith))

all_of : (p : ℕ → Bool) (xs : List ℕ) → list_all p xs ≡ all p xs
unfolding all
all_of p [] = refl
all_of p (x ∷ xs) = ap (λ (b : Bool). p x && b) (all_of p xs)

any_of : (p : ℕ → Bool) (xs : List ℕ) → list_any p xs ≡ any p xs
unfolding any
any_of p [] = refl
any_of p (x ∷ xs) = ap (λ (b : Bool). p x || b) (any_of p xs)

-- what `all` answers over the indices below n
pub every_in : (n : ℕ) (p : ℕ → Bool) → list_all p (range_with_len 0 n) ≡ every n p
unfolding every
every_in n p = ap (λ (xs : List ℕ). list_all p xs) (range_below n) ∙ all_of p (below n)

-- what `any` answers over the indices below n
pub some_in : (n : ℕ) (p : ℕ → Bool) → list_any p (range_with_len 0 n) ≡ some n p
unfolding some
some_in n p = ap (λ (xs : List ℕ). list_any p xs) (range_below n) ∙ any_of p (below n)

module _ {F : Type 0} {g : Mut F (ℕ × Unit {0}) Bool} (p : ℕ → Bool) {n : ℕ} {u : Range ℕ} {f : F} {r : Bool} where
  -- what `(0..n).all(f)` answers, where each call of f answers p
  pub every_by :
      (xs : List ℕ) × (o : Option ℕ) × (j : F) × YieldsThen nat_range_steps (record { start = 0; end = n }) xs o u
      × FoldsTo (λ (h : F) (x : ℕ) (q : F). Called g h (x, tt) true q) f xs j
      × MatchOption o (r ≡ true) (λ (x : ℕ). (r ≡ false) × ((h : F) × Called g j (x, tt) false h))
      → ((x : ℕ) (b : Bool) (q : F) → Called g f (x, tt) b q → (q ≡ f) × (b ≡ p x))
      → r ≡ every n p
  every_by ran calls = all_from_yields_List p u f r ran (YieldsList-from_range 0 n n refl (omega arith)) calls ∙ every_in n p

  -- what `(0..n).any(f)` answers, where each call of f answers p
  pub some_by :
      (xs : List ℕ) × (o : Option ℕ) × (j : F) × YieldsThen nat_range_steps (record { start = 0; end = n }) xs o u
      × FoldsTo (λ (h : F) (x : ℕ) (q : F). Called g h (x, tt) false q) f xs j
      × MatchOption o (r ≡ false) (λ (x : ℕ). (r ≡ true) × ((h : F) × Called g j (x, tt) true h))
      → ((x : ℕ) (b : Bool) (q : F) → Called g f (x, tt) b q → (q ≡ f) × (b ≡ p x))
      → r ≡ some n p
  some_by ran calls = any_from_yields_List p u f r ran (YieldsList-from_range 0 n n refl (omega arith)) calls ∙ some_in n p

module _ {F A : Type 0} (g : Mut F (ℕ × Unit {0}) A) (t : ℕ → A) (f : F) where
  -- each call leaves f as it is, and answers t of the index
  abbrev pub CallsAnswer : Type 0
  CallsAnswer = (i : ℕ) (y : A) (q : F) → Called g f (i, tt) y q → (q ≡ f) × (y ≡ t i)

  made_at : (ys : List A) → CallsAnswer → (m i : ℕ) (h : F) → h ≡ f → IsFromFnResultFrom g h ys i m → (k : ℕ) (d : A) → k < m → get_or ys (i + k) d ≡ t (i + k)
  made_at ys calls zero i h e made k d l = absurd (omega arith)
  made_at ys calls (suc m) i h e made zero d l =
      let now = calls i made.1 made.0 (subst (λ (x : F). Called g x (i, tt) made.1 made.0) e made.3) in
      rw add-zero (made.2.1 d ∙ now.1)
  made_at ys calls (suc m) i h e made (suc k) d l =
      let now = calls i made.1 made.0 (subst (λ (x : F). Called g x (i, tt) made.1 made.0) e made.3) in
      let j : i + suc k ≡ i + 1 + k = omega arith in
      rw j (made_at ys calls m (i + 1) made.0 now.0 made.4 k d (omega arith))

  -- what `array::from_fn(f)` answers
  pub table_by : (n : ℕ) (ys : List A) → IsFromFnResult g f ys n → CallsAnswer → ys ≡ map t (below n)
  table_by n ys made calls =
      let long : length (map t (below n)) ≡ n = length-map (below n) t ∙ length_below n in
      same_lists ys (map t (below n)) (made.long ∙ sym long) (λ k d h.
      let l : k < n = omega (arith, made.long) in
      let z : 0 + k ≡ k = omega arith in
      (let at : get_or ys (0 + k) d ≡ t (0 + k) = made_at ys calls n 0 f refl made.each k d l in
      subst (λ (j : ℕ). get_or ys j d ≡ t j) z at)
      ∙ sym (get_or_map_below t n k d l))
