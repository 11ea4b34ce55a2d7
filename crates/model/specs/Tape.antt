-- Section 'The command tape': the commands, what stands at an offset of a tape, and a tape run by any card over any world.
use Rattle.std.specs.Prelude.{ℕ, zero, suc, ◌+◌, max, List, [], ◌∷◌, Bool, true, false, cond, length, get_or, ltb, leb, eqb}
use Rattle.std.proofs.Math.Option.{Option, none, some}
use Rattle.model.specs.Limits.{max_taken, max_report_taken}
use Rattle.model.specs.Bytes.{Bytes, number, part}
use Rattle.model.specs.Command.{Outcome, refused_with, unless}

-- ---- paper 02, (h): of the summary task, which is the report task, 'It gets a WRITE of its own, byte 9': whose WRITE it is, that of the
-- lamp reports or the report task's
pub data Task : Type 0 where
  lamp_task : Task
  report_task : Task

-- 'a transaction at most 8 blocks', 'the report task's block limit': with so many blocks or more a WRITE of this task takes none
abbrev pub block_limit : Task → ℕ
block_limit lamp_task = max_taken
block_limit report_task = max_report_taken

-- ---- the commands, each with its operands: FORMAT has C, B, J; WRITE, beside its task, has core, block, offset, data; CLOSE, STORE,
-- CHECKPOINT and, since paper 02's (g), RETIRE have a core
pub data Command : Type 0 where
  FORMAT : ℕ → ℕ → ℕ → Command
  WRITE : Task → ℕ → ℕ → ℕ → Bytes → Command
  CLOSE : ℕ → Command
  STORE : ℕ → Command
  CHECKPOINT : ℕ → Command
  CUT : Command
  RECOVER : Command
  RETIRE : ℕ → Command

-- 'One byte, then operands of fixed widths': the bytes of the operands of commands 1 to 9
unfoldable pub operand_lengths : List ℕ
operand_lengths = 0 ∷ 3 ∷ 8 ∷ 1 ∷ 1 ∷ 1 ∷ 0 ∷ 0 ∷ 1 ∷ 8 ∷ []

unfoldable pub operand_length : ℕ → ℕ
operand_length k = get_or operand_lengths k 0

-- 'with the operands of command 2'
abbrev pub write_of : Task → Bytes → Command
write_of task a = WRITE task (get_or a 0 0) (number 0 (part 1 2 a)) (get_or a 3 0) (part 4 4 a)

-- the command of a byte and its operands; none for an unknown byte
unfoldable pub decoded : ℕ → Bytes → Option Command
decoded k a =
    let c = get_or a 0 0 in
    cond (eqb k 1) (some (FORMAT c (get_or a 1 0) (get_or a 2 0)))
    (cond (eqb k 2) (some (write_of lamp_task a))
    (cond (eqb k 3) (some (CLOSE c))
    (cond (eqb k 4) (some (STORE c))
    (cond (eqb k 5) (some (CHECKPOINT c))
    (cond (eqb k 6) (some CUT)
    (cond (eqb k 7) (some RECOVER)
    (cond (eqb k 8) (some (RETIRE c))
    (cond (eqb k 9) (some (write_of report_task a)) none))))))))

-- ---- what stands at an offset of a tape: a whole command, '2 unknown command byte' or '3 operands end early'
pub data Read : Type 0 where
  whole : Command → Read
  unknown : Read
  early : Read

abbrev pub is_unknown : Read → Bool
is_unknown (whole k) = false
is_unknown unknown = true
is_unknown early = false

abbrev pub is_early : Read → Bool
is_early (whole k) = false
is_early unknown = false
is_early early = true

unfoldable pub command_byte : Bytes → ℕ → ℕ
command_byte t at = get_or t at 0

unfoldable pub operands_at : Bytes → ℕ → Bytes
operands_at t at = part (at + 1) (operand_length (command_byte t at)) t

-- the operands must be there; an unknown byte has none
unfoldable pub whole_or_early : Bool → Option Command → Read
whole_or_early short none = unknown
whole_or_early short (some k) = cond short early (whole k)

-- past the end of the tape there is not even a command byte
unfoldable pub read_at : Bytes → ℕ → Read
read_at t at =
    cond (leb (length t) at) early
    (whole_or_early (ltb (length t) (at + 1 + operand_length (command_byte t at))) (decoded (command_byte t at) (operands_at t at)))

-- 'After 2 or 3 the tape ends.': where the next command stands
unfoldable pub offset_past : Read → Bytes → ℕ → ℕ
offset_past (whole k) t at = at + 1 + operand_length (command_byte t at)
offset_past unknown t at = max at (length t)
offset_past early t at = max at (length t)

unfoldable pub next_offset : Bytes → ℕ → ℕ
next_offset t at = offset_past (read_at t at) t at

-- ---- a whole tape, by any card over any world
-- a card: what it makes of a command
abbrev pub Step : Type 0 → Type 0
Step W = Command → W → Outcome W

-- a card as a tape meets it: what it makes of the command at an offset
abbrev pub TapeStep : Type 0 → Type 0
TapeStep W = Bytes → ℕ → W → Outcome W

-- one command of a run: where it stands, its byte, what is read there, the world before it, what came of it, and the stores
-- since format
pub record Point (W : Type 0) : Type 0 where
  pub offset : ℕ
  pub byte : ℕ
  pub read : Read
  pub before : W
  pub outcome : Outcome W
  pub stores : ℕ

module _ {W : Type 0} where
  unfoldable pub obeyed : Step W → Read → W → Outcome W
  obeyed f (whole k) w = f k w
  obeyed f unknown w = refused_with 2 w
  obeyed f early w = refused_with 3 w

  -- 'Order: 1, 2, 3': slices of a wrong length come first
  unfoldable pub command_at : (W → Bool) → Step W → TapeStep W
  command_at wrong f t at w = unless ((wrong w, 1) ∷ []) w (obeyed f (read_at t at) w)

  unfoldable pub run_from : ℕ → TapeStep W → Bytes → ℕ → ℕ → W → List (Point W)
  run_from zero f t at n w = []
  run_from (suc most) f t at n w =
      let o = f t at w in
      let m = n + o.stores in
      elim (ltb at (length t)) [
        | true ↦ record { offset = at; byte = command_byte t at; read = read_at t at; before = w; outcome = o; stores = m } ∷ run_from most f t (next_offset t at) m o.world
        | false ↦ []
      ]

  -- every command of the tape, from a world on
  unfoldable pub run : TapeStep W → Bytes → W → List (Point W)
  run f t w = run_from (length t) f t 0 0 w

  unfoldable pub world_after : W → List (Point W) → W
  world_after w [] = w
  world_after w (p ∷ ps) = world_after p.outcome.world ps

-- what a service book or ledger makes of a point, given what it makes of a command with its answer
unfoldable pub heard : {S : Type 0} → (Command → ℕ → S → S) → Read → ℕ → S → S
heard f (whole k) n s = f k n s
heard f unknown n s = s
heard f early n s = s
