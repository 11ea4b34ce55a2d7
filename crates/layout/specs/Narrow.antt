-- The block numbers of a descriptor as single bytes. Paper 02, (f): 'inside it they become single bytes once the range has been tested; the
-- disk keeps four.'
use Rattle.std.specs.Prelude.{ℕ, ◌<◌}
use Rattle.model.specs.Bytes.{Bytes}
use Rattle.layout.specs.Distinct.{tag_at}

-- the first n are below m: below B where they have passed the range test, so below 256, where the last byte of each is the number
unfoldable pub BlocksBelow : ℕ → Bytes → ℕ → Type 0
BlocksBelow m b n = (i : ℕ) → i < n → (tag_at b i).block < m
