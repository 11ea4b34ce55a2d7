-- Where the bytes of a block stand that a reader asks for.
use Rattle.std.specs.Prelude.{ℕ, ◌*◌, [], cond, eqb, Result, Ok, Err}
use Rattle.model.specs.Bytes.{Bytes}
use Rattle.model.specs.Shape.{home_block}
use Rattle.model.specs.Card.{holder_of, is_held}
use Rattle.model.specs.Command.{World}
use Rattle.model.specs.Reading.{read_number}
use Rattle.model.specs.Limits.{block_size}
use Rattle.model.specs.Refusal.{number_of}
use Rattle.model.specs.declared.Refusal.{Refusal}
use Rattle.reading.specs.declared.Slice.{Slice}
use Rattle.reading.specs.declared.Slice.TheVariants.{Disk, Memory}
use Rattle.reading.specs.declared.BlockPart.{BlockPart}

-- what is answered: the number, 0 for none; in no slice (0), the disk (1) or memory (2), from where on, and how many
pub record PartAnswer : Type 0 where
  pub number : ℕ
  pub slice : ℕ
  pub from : ℕ
  pub length : ℕ

abbrev pub new_part : ℕ → ℕ → ℕ → ℕ → PartAnswer
new_part n s a l = record { number = n; slice = s; from = a; length = l }

abbrev pub slice_number : Slice → ℕ
slice_number Disk = 1
slice_number Memory = 2

-- the same as the code answers it
abbrev pub answered : Result BlockPart Refusal → PartAnswer
answered (Ok p) = new_part 0 (slice_number p.slice) p.from p.length
answered (Err e) = new_part (number_of e) 0 0 0

-- in memory while a transaction holds the block, otherwise on the disk; nowhere where reading is refused
unfoldable pub part_of : ℕ → World → PartAnswer
part_of b w =
    cond (eqb (read_number b w) 0)
    (cond (is_held (holder_of w.card b)) (new_part 0 2 (block_size * b) block_size) (new_part 0 1 (block_size * home_block b) block_size))
    (new_part (read_number b w) 0 0 0)

-- the slice of a number: 1 the disk, 2 memory, any other none
unfoldable pub slice_of : ℕ → World → Bytes
slice_of n w = cond (eqb n 1) w.disk (cond (eqb n 2) w.memory [])
