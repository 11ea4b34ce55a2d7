-- What the program does with one command of a tape, and which home blocks have a line.
use Rattle.std.specs.Prelude.{ℕ, ◌+◌, ◌≤◌, ◌<◌, min, ◌≡◌, List, Bool, true, false, not, Some, None, length, take}
use Rattle.model.specs.Bytes.{Bytes, block_at}
use Rattle.model.specs.Shape.{home_block}
use Rattle.model.specs.Tape.{Read, whole, unknown, early, next_offset}
use Rattle.model.specs.Step.{step_at}
use Rattle.model.specs.Printing.{is_zero, Line, line_of}
use Rattle.model.proofs.Tape.{point_at}
use Rattle.cells.specs.Cells.{stores_in, world_in}
use Rattle.command.specs.Counting.{Performs}
use Rattle.lines.specs.declared.turn.Turn.{Turn}

-- a known command with all its operands: after any other the tape ends
abbrev pub is_whole : Read → Bool
is_whole (whole k) = true
is_whole unknown = false
is_whole early = false

-- the line that the program prints of a command
abbrev pub line_in : Turn → Line
line_in r = record { offset = r.offset; byte = r.byte; answer = r.answer; stores = r.stores }

-- The command at an offset of a tape t, over the cells v, the disk d and memory m, left u, e and k: what it performs; its line, as
-- long as the count of stores fits its cell; and whether the tape goes on: then where the next command stands, as long as
-- offsets fit eight bytes, and else no command follows.
pub record Turned (t : Bytes) (at : ℕ) (v : List ℕ) (d m : Bytes) (u : List ℕ) (e k : Bytes) (r : Turn) : Type 0 where
  pub performs : Performs (step_at t at (world_in v d m)) v u e k r.answer
  pub line : stores_in v + (step_at t at (world_in v d m)).stores < 18446744073709551616
      → line_in r ≡ line_of (point_at step_at t at (stores_in v) (world_in v d m))
  pub goes_on : (n : ℕ) → r.next ≡ Some n → length t < 18446744073709551616 → n ≡ next_offset t at
  pub ends : r.next ≡ None → length t ≤ next_offset t at

-- the offset behind a command, up to the largest number of eight bytes
abbrev pub advanced : ℕ → ℕ → ℕ
advanced at n = min (at + n) 18446744073709551615

-- home block b is not all zero
unfoldable pub is_printed : Bytes → ℕ → Bool
is_printed d b = not (is_zero (block_at d (home_block b)))

-- a home block's number and its first eight bytes
abbrev pub home_line : Bytes → ℕ → ℕ × Bytes
home_line d b = (b, take 8 (block_at d (home_block b)))
