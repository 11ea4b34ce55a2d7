-- One command of the program: its line is the model's, and the tape goes on where the model's does.
use Prim.Native.Nat.{ℕ, ◌≤◌}
use native.Mathlib.Omega.{arith}
use native.Mathlib.Nat.{le-max_right}
use mathlib.Core.Path.{◌≡◌, refl, sym, ap, ◌∙◌}
use mathlib.Core.Bool.{Bool, true, false, false≢true}
use mathlib.Core.List.{List}
use lib.ListN.{length}
use Rattle.std.specs.Prelude.{Option, Some, None}
use Rattle.std.specs.Bool.{then_some}
use Rattle.model.specs.Bytes.{Bytes}
use Rattle.model.specs.Command.{wrong_length}
use Rattle.model.specs.Tape.{Command, Read, whole, unknown, early, read_at, offset_past, next_offset}
use Rattle.model.specs.Step.{step, step_at_by, step_at}
use Rattle.model.specs.Printing.{Line}
use Rattle.model.proofs.Tape.{next_within, next_whole, whole_at}
use Rattle.cells.specs.Cells.{stores_in, world_in}
use Rattle.command.specs.Counting.{Performs}
use Rattle.command.proofs.CountLaws.{counted_sum}
use Rattle.firmware.specs.Session.{RunsCommand}
use Rattle.firmware.specs.declared.session.Reply.{Reply}
use Rattle.lines.specs.Lines.{is_whole, advanced, Turned}
use Rattle.model.proofs.OwnBytes.{own_bytes, same_byte, same_read, same_command, same_next}

-- ---- whole or not
-- where the tape goes on a whole command stands, and else no other follows
is_whole_lem : (r : Read) → is_whole r ≡ true → (k : Command) × (r ≡ whole k)
is_whole_lem (whole k) h = (k, refl)
is_whole_lem unknown h = absurd (false≢true h)
is_whole_lem early h = absurd (false≢true h)

next_last : (t : Bytes) (at : ℕ) → is_whole (read_at t at) ≡ false → length t ≤ next_offset t at
unfolding next_offset offset_past
next_last t at h = go (read_at t at) h
  where
    go : (r : Read) → is_whole r ≡ false → length t ≤ offset_past r t at
    go (whole k) q = absurd (false≢true (sym q))
    go unknown q = le-max_right at (length t)
    go early q = le-max_right at (length t)

-- ---- the offset of the next command, if there is one
when_some : (g : Bool) (a n : ℕ) → then_some g a ≡ Some n → (g ≡ true) × (a ≡ n)
when_some true a n h = (refl, cc)
when_some false a n h = absurd cc

when_none : (g : Bool) (a : ℕ) → then_some g a ≡ None → g ≡ false
when_none true a h = absurd cc
when_none false a h = refl

-- ---- a command of the bytes read is that of the tape
line_same : (at : ℕ) {a b c x y z : ℕ} → a ≡ x → b ≡ y → c ≡ z
    → ◌≡◌ {A = Line} (record { offset = at; byte = a; answer = b; stores = c }) (record { offset = at; byte = x; answer = y; stores = z })
line_same at p q r = rw (p, q, r)

module _ (t s : Bytes) (at : ℕ) (v : List ℕ) (d m : Bytes) (u : List ℕ) (e k : Bytes) (r : Reply) (p : RunsCommand s 0 v d m u e k r) where
  pub taken_within : r.next ≤ length s
  taken_within = omega (arith, p.next, next_within s 0 (omega arith))

  pub turned : (g : Bool) → g ≡ is_whole (read_at s 0) → (n : ℕ) → n ≡ stores_in u → (a : ℕ) → a ≡ advanced at r.next → (o : Option ℕ) → o ≡ then_some g a
      → own_bytes t at ≡ own_bytes s 0 → Turned t at v d m u e k (record { offset = at; byte = r.byte; answer = r.number; stores = n; taken = r.next; next = o })
  unfolding step_at_by
  turned g x n y a z o j q =
      let w = world_in v d m in
      let c : step_at t at w ≡ step_at s 0 w = same_command t at s 0 q wrong_length step w in
      let f : Performs (step_at t at w) v u e k r.number = rw c p.performs in
      let b : is_whole (read_at t at) ≡ is_whole (read_at s 0) = ap is_whole (same_read t at s 0 q) in
      record {
        performs = f;
        line = λ h. line_same at (p.byte ∙ sym (same_byte t at s 0 q)) f.answer (y ∙ f.stores ∙ sym (counted_sum (stores_in v) (step_at t at w).stores (omega arith) (omega arith)));
        goes_on = λ m h l.
            let k = when_some g a m (sym j ∙ h) in
            let i = is_whole_lem (read_at t at) (b ∙ sym x ∙ k.0) in
            omega (arith, z, k.1, p.next, same_next t at s 0 q i.0 i.1, next_whole t at i.0 i.1, (whole_at t at i.0 i.1).within);
        ends = λ h. next_last t at (b ∙ sym x ∙ when_none g a (sym j ∙ h));
      }
