-- Where a command and its operands stand on a tape: the table of operand lengths, refusals 2 and 3, the next offset.
use Prim.Native.Nat.{ℕ, ◌+◌, ◌-◌, ◌≤◌, ◌<◌, max}
use native.Mathlib.Omega.{arith}
use native.Mathlib.Nat.{le-max_left, max-le}
use mathlib.Core.Path.{◌≡◌, refl, sym, ap, ◌∙◌}
use mathlib.Core.Logic.{inl, inr}
use mathlib.Core.Bool.{Bool, true, false, not}
use native.Mathlib.Decide.{dec_lt}
use Rattle.std.proofs.Common.{cond, ◌&&◌, is_le, is_lt, nat_cmp}
use Rattle.std.proofs.lemmas.Bool.Decides.{nat_tests}
use lib.ListN.{length, get_or, get_or-eq_default}
use lib.Dec.{leb}
use borrow.Author.Tests.{leb-true, leb-false, lt-ltb, le-ltb}
use Rattle.model.specs.Lists.{all}
use Rattle.model.specs.Bytes.{Bytes}
use Rattle.model.specs.Shape.{between}
use Rattle.model.specs.Tape.{operand_lengths, operand_length, command_byte, is_unknown, next_offset, is_early, offset_past, read_at}
use Rattle.model.proofs.Lists.{cases, all_mem, get_or_mem}
use Rattle.model.proofs.Tape.{early_is, next_ends, next_known, read_past, unknown_is}

-- ---- the table of operand lengths
pub length_few : (k : ℕ) → get_or operand_lengths k 0 ≤ 8
unfolding operand_lengths all
length_few k =
    elim (dec_lt k 10) [
      | yes h ↦ leb-true _ 8 (all_mem (λ (x : ℕ). leb x 8) operand_lengths refl (get_or_mem operand_lengths k 0 h))
      | no h ↦
          let long : length operand_lengths ≤ k = omega arith in
          rw (get_or-eq_default operand_lengths 0 long) (omega arith)
    ]

-- ---- refusals 2 and 3
module _ (t : Bytes) (at : ℕ) where
  pub unknown_past : length t ≤ at → false ≡ is_unknown (read_at t at)
  unknown_past h = sym (unknown_is t at ∙ simp (le-ltb at (length t) h))

  pub early_past : length t ≤ at → true ≡ is_early (read_at t at)
  early_past h = sym (ap is_early (read_past t at h))

  module _ (h : at < length t) (k : ℕ) (e : k ≡ get_or t at 0) where
    byte_known : is_unknown (read_at t at) ≡ not (between 1 k 9)
    unfolding command_byte
    byte_known = unknown_is t at ∙ rw (lt-ltb at (length t) h, ← e) refl

    -- by what a range answers that has not been gone over
    pub unknown_rest : (r x : Bool) (low high : ℕ) → low ≡ 1 → high ≡ 9 → x ≡ false → r ≡ (is_le (nat_cmp low k) && cond x (is_lt (nat_cmp k high)) (is_le (nat_cmp k high)))
        → not r ≡ is_unknown (read_at t at)
    unfolding between
    unknown_rest r x low high a b c q = ap not (q ∙ rw (a, b, c) (grind (arith, nat_tests))) ∙ sym byte_known

    pub early_rest : (n : ℕ) → n ≡ operand_length k → leb (length t - at) n ≡ is_early (read_at t at)
    unfolding command_byte
    early_rest n f =
        rw (early_is t at, ← e, ← f)
        (cases (leb (length t - at) n)
        (λ q. rw q (sym (lt-ltb (length t) (at + 1 + n) (omega (arith, leb-true (length t - at) n q)))))
        (λ q. rw q (sym (le-ltb (length t) (at + 1 + n) (omega (arith, leb-false (length t - at) n q))))))

-- ---- where the next command stands
module _ (t : Bytes) (at : ℕ) where
  pub next_past : length t ≤ at → at ≡ next_offset t at
  unfolding next_offset offset_past
  next_past h =
      let q : max at (length t) ≤ at = max-le (omega arith) h in
      rw (read_past t at h) (omega (arith, le-max_left at (length t)))

  pub next_unknown : at < length t → (g : Bool) → g ≡ is_unknown (read_at t at) → g ≡ true → length t ≡ next_offset t at
  next_unknown h g e q = next_ends t at h (inl (sym e ∙ q))

  pub next_early : at < length t → (g : Bool) → g ≡ is_early (read_at t at) → g ≡ true → length t ≡ next_offset t at
  next_early h g e q = next_ends t at h (inr (sym e ∙ q))

  pub next_whole : (g : Bool) → g ≡ is_unknown (read_at t at) → g ≡ false → (r : Bool) → r ≡ is_early (read_at t at) → r ≡ false
      → (k : ℕ) → k ≡ get_or t at 0 → (n : ℕ) → n ≡ operand_length k → at + 1 + n ≡ next_offset t at
  unfolding command_byte
  next_whole g e q r f p k a n b = rw (b, a) (sym (next_known t at (sym e ∙ q) (sym f ∙ p)))
