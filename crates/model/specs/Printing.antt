-- What the tape program prints: section 'Cases'.
use Rattle.std.specs.Prelude.{ℕ, List, map, Bool, cond, not, take, eqb}
use Rattle.model.specs.Lists.{below, all, select}
use Rattle.model.specs.Bytes.{Bytes, block_at, zero_disk, zero_memory}
use Rattle.model.specs.Shape.{home_block}
use Rattle.model.specs.Card.{blank_card, shape_of}
use Rattle.model.specs.Layout.{is_master}
use Rattle.model.specs.Command.{World}
use Rattle.model.specs.Recovery.{shape_on}
use Rattle.model.specs.Tape.{TapeStep, Point, run, world_after}
use Rattle.model.specs.declared.Phase.TheVariants.{Blank, Up, Down}

-- 'per command: offset, command byte, answer (0 if done), stores since format'
pub record Line : Type 0 where
  pub offset : ℕ
  pub byte : ℕ
  pub answer : ℕ
  pub stores : ℕ

abbrev pub line_of : Point World → Line
line_of p = record { offset = p.offset; byte = p.byte; answer = p.outcome.answer; stores = p.stores }

-- 'A blank card prints no block.' A card that is down prints those that its disk's master counts.
unfoldable pub home_count : World → ℕ
home_count w =
    elim w.card.phase
    [ Blank ↦ 0 | Up ↦ (shape_of w.card).blocks | Down ↦ cond (is_master (block_at w.disk 0)) (shape_on w.disk).blocks 0 ]

-- 'Then come home blocks that are not all zero, ascending, with their first eight bytes in hex.'
unfoldable pub is_zero : Bytes → Bool
is_zero b = all (eqb 0) b

unfoldable pub home_lines : World → List (ℕ × Bytes)
home_lines w =
    map (λ (b : ℕ). (b, take 8 (block_at w.disk (home_block b))))
    (select (λ (b : ℕ). not (is_zero (block_at w.disk (home_block b)))) (below (home_count w)))

pub record Page : Type 0 where
  pub lines : List Line
  pub homes : List (ℕ × Bytes)

unfoldable pub printed : TapeStep World → Bytes → World → Page
printed f t w = let ps = run f t w in record { lines = map line_of ps; homes = home_lines (world_after w ps) }

-- the tape program starts on a blank card over zero slices
unfoldable pub blank_world : World
blank_world = record { card = blank_card; disk = zero_disk; memory = zero_memory }
