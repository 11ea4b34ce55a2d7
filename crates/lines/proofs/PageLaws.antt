-- Which home blocks have a line: whether one is all zero, and those below a count.
use Prim.Native.Nat.{ℕ, ◌+◌, ◌-◌, ◌*◌, ◌≤◌, ◌<◌}
use native.Mathlib.Numerals.{add-one}
use native.Mathlib.Omega.{arith}
use mathlib.Core.Path.{◌≡◌, refl, sym, ap, ◌∙◌}
use mathlib.Core.Bool.{Bool, true, false, cond, not}
use mathlib.Core.List.{List, [], ◌∷◌, ◌++◌, map}
use lib.ListN.{length, take, drop, set}
use lib.Seq.{take-take, take-suc-set}
use lib.Dec.{eqb}
use borrow.Author.Tests.{eqb-true, eqb-false, eq-eqb, ne_eqb}
use Rattle.std.specs.List.{list_any}
use Rattle.model.specs.Lists.{below, all, select}
use Rattle.model.specs.Bytes.{Bytes, part, block_at}
use Rattle.model.specs.Shape.{home_block}
use Rattle.model.specs.declared.Card.{Card}
use Rattle.cells.specs.Cells.{world}
use Rattle.model.specs.Printing.{is_zero, home_count, home_lines}
use Rattle.model.proofs.Lists.{cases}
use Rattle.lines.specs.Lines.{is_printed, home_line}

-- ---- all zero
-- a byte is not zero, or all are
pub some_not_zero : (b : Bytes) → list_any (λ (x : ℕ). not (eqb x 0)) b ≡ not (is_zero b)
unfolding is_zero all
some_not_zero [] = refl
some_not_zero (x ∷ xs) =
    cases (eqb 0 x)
    (λ h. rw (h, eq-eqb x 0 (sym (eqb-true 0 x h))) (some_not_zero xs))
    (λ h. rw (h, ne_eqb x 0 (λ e. eqb-false 0 x h (sym e))))

-- ---- which home blocks have a line
-- the bytes of home block b are a part of the disk
block_part : (d : Bytes) (b n : ℕ) → n ≤ 128 → take n (drop (128 * b + 128) d) ≡ take n (block_at d (home_block b))
unfolding block_at part
block_part d b n h =
    let e : 128 * b + 128 ≡ 128 * (1 + b) = omega arith in
    ap (λ (i : ℕ). take n (drop i d)) e ∙ sym (take-take n 128 (drop (128 * (1 + b)) d) h)

pub first_part : (d : Bytes) (b : ℕ) → take (128 * b + 128 + 8 - (128 * b + 128)) (drop (128 * b + 128) d) ≡ take 8 (block_at d (home_block b))
first_part d b = let e : 128 * b + 128 + 8 - (128 * b + 128) ≡ 8 = omega arith in ap (λ (n : ℕ). take n (drop (128 * b + 128) d)) e ∙ block_part d b 8 (omega arith)

pub printed_part : (d : Bytes) (b : ℕ) (g : Bool) → g ≡ list_any (λ (x : ℕ). not (eqb x 0)) (take (128 * b + 128 + 128 - (128 * b + 128)) (drop (128 * b + 128) d))
    → g ≡ is_printed d b
unfolding is_printed block_at part
printed_part d b g h =
    let e : 128 * b + 128 + 128 - (128 * b + 128) ≡ 128 = omega arith in
    let f : 128 * b + 128 ≡ 128 * (1 + b) = omega arith in
    h ∙ some_not_zero _ ∙ ap (λ (n : ℕ). not (is_zero (take n (drop (128 * b + 128) d)))) e ∙ ap (λ (i : ℕ). not (is_zero (take 128 (drop i d)))) f

-- ---- those below a count
into_both : (g : Bool) (x : ℕ) (xs ys : List ℕ) → x ∷ cond g xs ys ≡ cond g (x ∷ xs) (x ∷ ys)
into_both true x xs ys = refl
into_both false x xs ys = refl

select_last : (p : ℕ → Bool) (xs : List ℕ) (b : ℕ) → select p (xs ++ (b ∷ [])) ≡ cond (p b) (select p xs ++ (b ∷ [])) (select p xs)
unfolding select
select_last p [] b = cases (p b) (λ h. rw h) (λ h. rw h)
select_last p (x ∷ xs) b =
    cases (p x)
    (λ h. rw h (ap (λ (l : List ℕ). x ∷ l) (select_last p xs b) ∙ into_both (p b) x (select p xs ++ (b ∷ [])) (select p xs)))
    (λ h. rw h (select_last p xs b))

module _ (d : Bytes) where
  pub printed_none : [] ≡ select (is_printed d) (below 0)
  unfolding select below
  printed_none = refl

  module _ (l : Bytes) (n b : ℕ) (q : take n l ≡ select (is_printed d) (below b)) where
    -- its number is put at n
    pub printed_more : n < length l → is_printed d b ≡ true → take (n + 1) (set l n b) ≡ select (is_printed d) (below (b + 1))
    unfolding below
    printed_more h e = rw (add-one n, add-one b, select_last (is_printed d) (below b) b, e, ← q) (take-suc-set l n b h)

    -- it has no line
    pub printed_same : is_printed d b ≡ false → take n l ≡ select (is_printed d) (below (b + 1))
    unfolding below
    printed_same e = rw (add-one, select_last (is_printed d) (below b) b, e) q

  -- the lines of a card with so many home blocks
  pub printed_lines : (l : Bytes) (n c : ℕ) → take n l ≡ select (is_printed d) (below c) → (x : Card) (m : Bytes) → c ≡ home_count (world x d m)
      → map (home_line d) (take n l) ≡ home_lines (world x d m)
  unfolding home_lines is_printed
  printed_lines l n c q x m e = ap (map (home_line d)) (q ∙ ap (λ (i : ℕ). select (is_printed d) (below i)) e)
