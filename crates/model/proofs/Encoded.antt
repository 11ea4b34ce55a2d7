-- Every command stands on some tape: its bytes are read as that command. So a command that no byte gives is refused here. And where a
-- command is read, its own byte stands.
use Prim.Native.Nat.{ℕ, ◌+◌, ◌*◌, ◌/◌, ◌%◌}
use native.Mathlib.Omega.{arith}
use mathlib.Core.Path.{◌≡◌, refl, ap, subst}
use mathlib.Core.Option.{Option, none, some}
use mathlib.Core.List.{[], ◌∷◌}
use lib.ListN.{length, get_or}
use Rattle.model.specs.Bytes.{Bytes, number, part}
use Rattle.model.specs.Tape.{Task, lamp_task, report_task, Command, FORMAT, WRITE, CLOSE, STORE, CHECKPOINT, CUT, RECOVER, RETIRE, operand_lengths, operand_length, write_of, decoded, whole, command_byte, operands_at, whole_or_early, read_at}
use Rattle.model.proofs.Tape.{OfData, by_byte, decoded_past, whole_at}

-- the byte of each task's WRITE
unfoldable pub write_byte : Task → ℕ
write_byte lamp_task = 2
write_byte report_task = 9

byte_decoded : (task : Task) (a : Bytes) → decoded (write_byte task) a ≡ some (write_of task a)
unfolding write_byte decoded
byte_decoded lamp_task a = refl
byte_decoded report_task a = refl

byte_length : (task : Task) → operand_length (write_byte task) ≡ 8
unfolding write_byte operand_length operand_lengths
byte_length lamp_task = refl
byte_length report_task = refl

-- the bytes of a command: its byte, then its operands
unfoldable pub encoded : Command → Bytes
encoded (FORMAT c b j) = 1 ∷ c ∷ b ∷ j ∷ []
encoded (WRITE task c b o v) = write_byte task ∷ c ∷ b / 256 ∷ b % 256 ∷ o ∷ v
encoded (CLOSE c) = 3 ∷ c ∷ []
encoded (STORE c) = 4 ∷ c ∷ []
encoded (CHECKPOINT c) = 5 ∷ c ∷ []
encoded CUT = 6 ∷ []
encoded RECOVER = 7 ∷ []
encoded (RETIRE c) = 8 ∷ c ∷ []

write_encoded : (task : Task) (c b o : ℕ) (v : Bytes) → length v ≡ 4 → read_at (encoded (WRITE task c b o v)) 0 ≡ whole (WRITE task c b o v)
unfolding encoded read_at whole_or_early command_byte operands_at part number
write_encoded task c b o [] h = absurd (omega arith)
write_encoded task c b o (x ∷ []) h = absurd (omega arith)
write_encoded task c b o (x ∷ y ∷ []) h = absurd (omega arith)
write_encoded task c b o (x ∷ y ∷ z ∷ []) h = absurd (omega arith)
write_encoded task c b o (x ∷ y ∷ z ∷ u ∷ []) h =
    let e : (0 * 256 + b / 256) * 256 + b % 256 ≡ b = omega arith in
    rw (byte_length task, byte_decoded task) (ap (λ (n : ℕ). whole (WRITE task c n o (x ∷ y ∷ z ∷ u ∷ []))) e)
write_encoded task c b o (x ∷ y ∷ z ∷ u ∷ n ∷ v) h = absurd (omega arith)

pub read_encoded : (k : Command) → OfData (λ (v : Bytes). length v ≡ 4) k → read_at (encoded k) 0 ≡ whole k
unfolding encoded read_at whole_or_early decoded command_byte operands_at operand_length operand_lengths part
read_encoded (FORMAT c b j) h = refl
read_encoded (WRITE task c b o v) h = write_encoded task c b o v h
read_encoded (CLOSE c) h = refl
read_encoded (STORE c) h = refl
read_encoded (CHECKPOINT c) h = refl
read_encoded CUT h = refl
read_encoded RECOVER h = refl
read_encoded (RETIRE c) h = refl

BeginsWith : Option Command → ℕ → Type 0
BeginsWith none k = Unit {0}
BeginsWith (some x) k = get_or (encoded x) 0 0 ≡ k

decoded_begins : (k : ℕ) (a : Bytes) → BeginsWith (decoded k a) k
unfolding decoded encoded write_byte BeginsWith
decoded_begins k a =
    by_byte (λ (k : ℕ). BeginsWith (decoded k a) k) (tt, (refl, (refl, (refl, (refl, (refl, (refl, (refl, (refl, (refl, tt)))))))))) (λ k h. rw (decoded_past k a h) tt) k

pub own_byte : (t : Bytes) (at : ℕ) (k : Command) → read_at t at ≡ whole k → get_or (encoded k) 0 0 ≡ command_byte t at
unfolding BeginsWith
own_byte t at k e = subst (λ (m : Option Command). BeginsWith m (command_byte t at)) (whole_at t at k e).decodes (decoded_begins (command_byte t at) (operands_at t at))
