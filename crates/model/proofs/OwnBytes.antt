-- A command hangs on its own bytes alone, those from its offset to where it ends: at the start of a tape of these it is the same
-- command, unknown or early where it was. So are two commands whose own bytes are the same.
use Prim.Native.Nat.{ℕ, suc, ◌+◌, ◌-◌, ◌≤◌, ◌<◌, min}
use native.Mathlib.Omega.{arith}
use mathlib.Core.Path.{◌≡◌, refl, sym, ap, ◌∙◌}
use mathlib.Core.Bool.{Bool, false}
use mathlib.Core.List.{[], ◌∷◌, ◌++◌}
use lib.ListN.{length, take, drop, get_or, length-take, length-drop, get_or-append}
use lib.Seq.{get_or-take, get_or-drop, take-nil, take-take, take-append-le, drop-drop}
use lib.Dec.{ltb, leb}
use borrow.Author.Tests.{ltb-true, ltb-false, lt-ltb, le-ltb, le-leb, lt-leb, leb-true, leb-false}
use Rattle.model.specs.Bytes.{Bytes, part}
use Rattle.model.specs.Tape.{Command, operand_length, whole, is_early, command_byte, operands_at, read_at, offset_past, next_offset, Step, command_at}
use Rattle.model.proofs.Lists.{cases}
use Rattle.model.proofs.Tape.{early_is}

-- the bytes of the command at an offset, or those of them that are there; of an unknown one its first byte
unfoldable pub own_bytes : Bytes → ℕ → Bytes
own_bytes t at = part at (suc (operand_length (command_byte t at))) t

drop_first : (n : ℕ) (l : Bytes) → drop 1 (take (suc n) l) ≡ take n (drop 1 l)
drop_first n [] = sym (take-nil n)
drop_first n (x ∷ xs) = refl

module _ (t : Bytes) (at : ℕ) where
  -- ---- (i) byte and operands
  pub own_byte : command_byte (own_bytes t at) 0 ≡ command_byte t at
  unfolding own_bytes part command_byte
  own_byte =
      let n = operand_length (get_or t at 0) in
      let e : at + 0 ≡ at = omega arith in
      get_or-take (suc n) (drop at t) 0 0 (omega arith) ∙ get_or-drop at t 0 0 ∙ ap (λ (i : ℕ). get_or t i 0) e

  pub own_operands : operands_at (own_bytes t at) 0 ≡ operands_at t at
  unfolding operands_at own_bytes part
  own_operands =
      let n = operand_length (command_byte t at) in
      rw own_byte
      (ap (take n) (drop_first n (drop at t))
      ∙ take-take n n (drop 1 (drop at t)) (omega arith)
      ∙ ap (take n) (drop-drop 1 at t))

  own_length : length (own_bytes t at) ≡ min (suc (operand_length (command_byte t at))) (length t - at)
  unfolding own_bytes part
  own_length = length-take _ (drop at t) ∙ ap (min (suc (operand_length (command_byte t at)))) (length-drop at t)

  -- a first byte is there, and too few are there, on both
  own_begins : leb (length (own_bytes t at)) 0 ≡ leb (length t) at
  own_begins =
      cases (leb (length t) at)
      (λ h. le-leb (length (own_bytes t at)) 0 (omega (arith, own_length, leb-true (length t) at h)) ∙ sym h)
      (λ h. lt-leb (length (own_bytes t at)) 0 (omega (arith, own_length, leb-false (length t) at h)) ∙ sym h)

  own_short : let n = operand_length (command_byte t at) in ltb (length (own_bytes t at)) (0 + 1 + n) ≡ ltb (length t) (at + 1 + n)
  own_short =
      let n = operand_length (command_byte t at) in
      cases (ltb (length t) (at + 1 + n))
      (λ h. lt-ltb (length (own_bytes t at)) (0 + 1 + n) (omega (arith, own_length, ltb-true (length t) (at + 1 + n) h)) ∙ sym h)
      (λ h. le-ltb (length (own_bytes t at)) (0 + 1 + n) (omega (arith, own_length, ltb-false (length t) (at + 1 + n) h)) ∙ sym h)

  -- ---- (ii) what is read there: the command, unknown or early
  pub own_read : read_at (own_bytes t at) 0 ≡ read_at t at
  unfolding read_at
  own_read = rw (own_begins, own_byte, own_operands, own_short)

  -- ---- (iii) what any card makes of it, and where the next one stands
  pub own_command : {W : Type 0} (wrong : W → Bool) (f : Step W) (w : W) → command_at wrong f (own_bytes t at) 0 w ≡ command_at wrong f t at w
  unfolding command_at
  own_command wrong f w = rw own_read

  pub own_next : (k : Command) → read_at t at ≡ whole k → next_offset t at ≡ at + next_offset (own_bytes t at) 0
  unfolding next_offset offset_past
  own_next k e = rw (own_read, e, own_byte) (omega arith)

-- ---- bytes read from an offset on, with others to follow: they hold its own bytes where they do not end early, or no other follows
module _ (t : Bytes) (at : ℕ) (s r : Bytes) (e : drop at t ≡ s ++ r) where
  prefix_byte : 0 < length s → command_byte t at ≡ command_byte s 0
  unfolding command_byte
  prefix_byte h =
      let z : at + 0 ≡ at = omega arith in
      ap (λ (i : ℕ). get_or t i 0) (sym z) ∙ sym (get_or-drop at t 0 0) ∙ ap (λ (l : Bytes). get_or l 0 0) e ∙ get_or-append s r 0 0 h

  pub own_prefix : is_early (read_at s 0) ≡ false → own_bytes t at ≡ own_bytes s 0
  unfolding own_bytes part
  own_prefix h =
      let l : 0 + 1 + operand_length (command_byte s 0) ≤ length s = ltb-false (length s) _ (sym (early_is s 0) ∙ h) in
      rw (prefix_byte (omega arith), e) (take-append-le (suc (operand_length (command_byte s 0))) s r (omega arith))

pub own_rest : (t : Bytes) (at : ℕ) (s : Bytes) → drop at t ≡ s → own_bytes t at ≡ own_bytes s 0
unfolding own_bytes part command_byte
own_rest t at s e =
    let z : at + 0 ≡ at = omega arith in
    let b : get_or t at 0 ≡ get_or s 0 0 = ap (λ (i : ℕ). get_or t i 0) (sym z) ∙ sym (get_or-drop at t 0 0) ∙ ap (λ (l : Bytes). get_or l 0 0) e in
    rw (b, e)

-- ---- two commands whose own bytes are the same
module _ (t : Bytes) (at : ℕ) (s : Bytes) (i : ℕ) (e : own_bytes t at ≡ own_bytes s i) where
  same : {A : Type 0} (g : Bytes → ℕ → A) → ((t : Bytes) (at : ℕ) → g (own_bytes t at) 0 ≡ g t at) → g t at ≡ g s i
  same g h = sym (h t at) ∙ ap (λ (b : Bytes). g b 0) e ∙ h s i

  pub same_byte : command_byte t at ≡ command_byte s i
  same_byte = same command_byte own_byte

  pub same_read : read_at t at ≡ read_at s i
  same_read = same read_at own_read

  pub same_command : {W : Type 0} (wrong : W → Bool) (f : Step W) (w : W) → command_at wrong f t at w ≡ command_at wrong f s i w
  same_command wrong f w = same (λ (b : Bytes) (k : ℕ). command_at wrong f b k w) (λ t at. own_command t at wrong f w)

  pub same_next : (k : Command) → read_at t at ≡ whole k → i + next_offset t at ≡ at + next_offset s i
  same_next k h =
      let n : next_offset (own_bytes t at) 0 ≡ next_offset (own_bytes s i) 0 = ap (λ (b : Bytes). next_offset b 0) e in
      omega (arith, own_next t at k h, own_next s i k (sym same_read ∙ h))
