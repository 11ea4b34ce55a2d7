-- 'The library also reads a block of a card that is up.'
use Rattle.std.specs.Prelude.{ℕ, List, [], ◌∷◌, Bool, cond, eqb}
use Rattle.model.specs.Bytes.{Bytes, block_at}
use Rattle.model.specs.Shape.{home_block}
use Rattle.model.specs.Card.{holder_of, is_held}
use Rattle.model.specs.Command.{World, refusal, not_up, no_block}

-- a reader: the number that it answers for a block, and the bytes that it hands back
pub record Reader : Type 0 where
  pub number : ℕ → World → ℕ
  pub bytes : ℕ → World → Bytes

unfoldable pub read_conditions : ℕ → World → List (Bool × ℕ)
read_conditions b w = not_up w ((no_block w b, 6) ∷ [])

-- 'a second entry with the same inputs answers the number, 0 for none'
unfoldable pub read_number : ℕ → World → ℕ
read_number b w = refusal (read_conditions b w)

-- 'a part of memory while a transaction still in a journal, closed or running, holds the block, otherwise a part of
-- the disk. A refused reading hands back a part of no bytes'
unfoldable pub read_block : ℕ → World → Bytes
read_block b w =
    cond (eqb (read_number b w) 0) (cond (is_held (holder_of w.card b)) (block_at w.memory b) (block_at w.disk (home_block b))) []

abbrev pub block_reader : Reader
block_reader = record { number = read_number; bytes = read_block }
