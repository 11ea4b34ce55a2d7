-- The command of a byte and its operands; what stands at an offset of a tape, by the tests that refuse it.
use Rattle.model.proofs.Base.{ℕ, ◌+◌, ◌*◌, ◌-◌, ◌≤◌, arith, ◌≡◌, refl, sym, ap, ◌∙◌, ◌⊎◌, inl, inr, Bool, true, false, true≢false}
use Rattle.model.proofs.Base.{[], ◌∷◌, length, take, drop, get_or, length-take, length-drop, leb, leb-true, Bytes}
use Rattle.std.proofs.Common.{drop-cons}
use mathlib.Core.Option.{some, some-injective}
use Rattle.model.specs.Bytes.{number, part}
use Rattle.model.specs.Shape.{between}
use Rattle.model.specs.Tape.{Task, lamp_task, report_task, Command, FORMAT, WRITE, CLOSE, STORE, CHECKPOINT, CUT, RECOVER, RETIRE, write_of, operand_lengths, operand_length, decoded, Read, whole, unknown, early, is_unknown, is_early, command_byte, operands_at, read_at}
use Rattle.model.proofs.Lists.{and_left, and_right}
use Rattle.model.proofs.Tape.{is_command, decoded_known, read_whole, whole_at}
use Rattle.std.specs.Prelude.{Ok, Err}
use Rattle.model.specs.declared.Refusal.TheVariants.{UnknownCommand, EarlyEnd}
use Rattle.operands.specs.Decoding.{command_of, tape_answer, ReadAs}
use Rattle.operands.specs.declared.decoding.Command as code

-- ---- the operands of WRITE
module _ (a : Bytes) (h : length a ≡ 8) where
  pub block_operand : get_or a 1 0 * 256 + get_or a 2 0 ≡ number 0 (part 1 2 a)
  unfolding number part
  block_operand =
      let e : get_or a 1 0 * 256 + get_or a 2 0 ≡ (0 * 256 + get_or a 1 0) * 256 + get_or a 2 0 = omega arith in
      rw (drop-cons a 1 0 (omega arith), drop-cons a 2 0 (omega arith)) e

  pub bytes_operand : get_or a 4 0 ∷ get_or a 5 0 ∷ get_or a 6 0 ∷ get_or a 7 0 ∷ [] ≡ part 4 4 a
  unfolding part
  bytes_operand = rw (drop-cons a 4 0 (omega arith), drop-cons a 5 0 (omega arith), drop-cons a 6 0 (omega arith), drop-cons a 7 0 (omega arith))

  pub write_operands : (t : Task)
      → WRITE t (get_or a 0 0) (get_or a 1 0 * 256 + get_or a 2 0) (get_or a 3 0) (get_or a 4 0 ∷ get_or a 5 0 ∷ get_or a 6 0 ∷ get_or a 7 0 ∷ []) ≡ write_of t a
  write_operands t = rw (block_operand, bytes_operand)

-- both WRITEs have eight bytes
pub write_long : (a : Bytes) (k : ℕ) → length a ≡ operand_length k → (k ≡ 2) ⊎ (k ≡ 9) → length a ≡ 8
unfolding operand_length operand_lengths
write_long a k h (inl e) = h ∙ rw e
write_long a k h (inr e) = h ∙ rw e

-- ---- which command it is
module _ (k : ℕ) (a : Bytes) where
  pub write_decoded : (x : Command) → x ≡ write_of lamp_task a → k ≡ 2 → some x ≡ decoded k a
  unfolding decoded
  write_decoded x e h = rw (h, e) refl

  pub report_decoded : (x : Command) → x ≡ write_of report_task a → k ≡ 9 → some x ≡ decoded k a
  unfolding decoded
  report_decoded x e h = rw (h, e) refl

  pub cut_decoded : k ≡ 6 → some CUT ≡ decoded k a
  unfolding decoded
  cut_decoded h = rw h refl

  pub recover_decoded : k ≡ 7 → some RECOVER ≡ decoded k a
  unfolding decoded
  recover_decoded h = rw h refl

  module _ (c : ℕ) (e : c ≡ get_or a 0 0) where
    pub format_decoded : k ≡ 1 → (x : ℕ) → x ≡ get_or a 1 0 → (y : ℕ) → y ≡ get_or a 2 0 → some (FORMAT c x y) ≡ decoded k a
    unfolding decoded
    format_decoded h x p y q = rw (h, e, p, q) refl

    pub close_decoded : k ≡ 3 → some (CLOSE c) ≡ decoded k a
    unfolding decoded
    close_decoded h = rw (h, e) refl

    pub store_decoded : k ≡ 4 → some (STORE c) ≡ decoded k a
    unfolding decoded
    store_decoded h = rw (h, e) refl

    pub checkpoint_decoded : k ≡ 5 → some (CHECKPOINT c) ≡ decoded k a
    unfolding decoded
    checkpoint_decoded h = rw (h, e) refl

    pub retire_decoded : k ≡ 8 → some (RETIRE c) ≡ decoded k a
    unfolding decoded
    retire_decoded h = rw (h, e) refl

-- ---- what stands at an offset
unknown_answer : (r : Read) → is_unknown r ≡ true → 2 ≡ tape_answer r
unknown_answer (whole k) h = absurd (true≢false (sym h))
unknown_answer unknown h = refl
unknown_answer early h = absurd (true≢false (sym h))

early_answer : (r : Read) → is_early r ≡ true → 3 ≡ tape_answer r
early_answer (whole k) h = absurd (true≢false (sym h))
early_answer unknown h = absurd (true≢false (sym h))
early_answer early h = refl

module _ (t : Bytes) (at : ℕ) (u : Bool) (e : u ≡ is_unknown (read_at t at)) where
  pub read_unknown : u ≡ true → ReadAs (read_at t at) (Err UnknownCommand)
  read_unknown h = record { number = unknown_answer (read_at t at) (sym e ∙ h); found = λ k q. absurd (cc) }

  module _ (h : u ≡ false) (s : Bool) (f : s ≡ is_early (read_at t at)) where
    pub read_early : s ≡ true → ReadAs (read_at t at) (Err EarlyEnd)
    read_early g = record { number = early_answer (read_at t at) (sym f ∙ g); found = λ k q. absurd (cc) }

    module _ (g : s ≡ false) (k : ℕ) (b : k ≡ get_or t at 0) where
      there : (x : Command) × (read_at t at ≡ whole x)
      there = read_whole t at (sym e ∙ h) (sym f ∙ g)

      byte_same : command_byte t at ≡ k
      unfolding command_byte
      byte_same = sym b

      known : between 1 k 9 ≡ true
      known = rw byte_same at (sym (decoded_known (command_byte t at) (operands_at t at)) ∙ ap is_command (whole_at t at there.0 there.1).decodes)

      pub byte_low : 1 ≤ k
      unfolding between
      byte_low = leb-true 1 k (and_left (leb 1 k) (leb k 9) known)

      pub byte_high : k ≤ 9
      unfolding between
      byte_high = leb-true k 9 (and_right (leb 1 k) (leb k 9) known)

      module _ (n : ℕ) (l : n ≡ operand_length k) where
        pub operands_end : at + 1 + n ≤ length t
        operands_end =
            let w : at + 1 + operand_length (command_byte t at) ≤ length t = (whole_at t at there.0 there.1).within in
            let q : operand_length (command_byte t at) ≡ n = ap operand_length byte_same ∙ sym l in
            omega (arith, w, q)

        pub operands_long : length (take (at + 1 + n - (at + 1)) (drop (at + 1) t)) ≡ operand_length k
        operands_long = simp (length-take, length-drop) (omega (arith, operands_end, l))

        pub read_there : (c : code.Command) → some (command_of c) ≡ decoded k (take (at + 1 + n - (at + 1)) (drop (at + 1) t)) → ReadAs (read_at t at) (Ok c)
        unfolding operands_at part
        read_there c q =
            let z : at + 1 + n - (at + 1) ≡ operand_length k = omega (arith, l) in
            let d : decoded k (take (operand_length k) (drop (at + 1) t)) ≡ some there.0 = rw byte_same at (whole_at t at there.0 there.1).decodes in
            let o : some (command_of c) ≡ some there.0 = (rw z at q) ∙ d in
            let m : read_at t at ≡ whole (command_of c) = there.1 ∙ ap whole (sym (some-injective (command_of c) there.0 o)) in
            record { number = sym (ap tape_answer m); found = λ j y. let i : c ≡ j = cc in m ∙ ap (λ (v : code.Command). whole (command_of v)) i }
