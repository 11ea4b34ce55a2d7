-- RECOVER over the records read: the tail numbers of a disk, a core's tail after recovery, and what one store of recovery leaves.
use Rattle.std.specs.Prelude.{ℕ, ◌<◌, ◌≡◌, List, map, true, cond, length, get_or, replicate, ltb}
use Rattle.model.specs.Lists.{below}
use Rattle.model.specs.Bytes.{Bytes, block_at}
use Rattle.model.specs.Card.{new_tail}
use Rattle.model.specs.Layout.{is_master}
use Rattle.model.specs.Recovery.{shape_on, layout_on, valid_on, tail_past, emptied_tail}
use Rattle.model.specs.declared.Shape.{Shape}
use Rattle.model.specs.declared.Tail.{Tail}
use Rattle.model.specs.declared.CommitLayout.{CommitLayout}
use Rattle.model.proofs.Limits.{InRange}
use Rattle.master_block.specs.Tails.{tail_or_none}
use Rattle.journal.specs.declared.extents.Extent.{Extent}
use Rattle.journal.specs.Records.{tail_for, numbers_of, records_in, RunsTested}
use Rattle.journal.specs.Walk.{Reads}

-- the tail numbers of a disk's master
unfoldable pub numbers_on : Bytes → List ℕ
numbers_on d = numbers_of (map (tail_or_none (block_at d 0)) (below 8))

-- two above the last committed number read, with none one above the old tail; all journals were read whole, and count has how many records
-- each has
unfoldable pub tail_after : Shape → List Tail → List ℕ → ℕ → Tail
tail_after s ts count c =
    cond (ltb c s.cores) (tail_past (tail_for ts c) (get_or count c 0)) (new_tail 0 0)

-- a disk of its length, with a master that gives this shape
pub record Shaped (s : Shape) (d : Bytes) : Type 0 where
  pub long : length d ≡ 32896
  pub master : is_master (block_at d 0) ≡ true
  pub shape : s ≡ shape_on d
  pub range : InRange s

-- the layout of a disk's commits, the tails of its master, and all its journals read whole
pub record OnDisk (s : Shape) (d : Bytes) (y : CommitLayout) (ts : List Tail) (xs : List Extent) (start count : List ℕ) : Type 0 where
  pub layout : y ≡ layout_on d
  pub tails : ts ≡ map (tail_or_none (block_at d 0)) (below 8)
  pub records : Reads y s d ts (replicate 8 s.journal) xs start count
  pub tested : RunsTested s d xs start count

-- tails and counts from which the journals of a disk are emptied
unfoldable pub Emptying : Shape → Bytes → List Tail → List ℕ → Type 0
Emptying s d ts count = (c : ℕ) → c < 8 → tail_after s ts count c ≡ emptied_tail (layout_on d) d c

-- records that are the valid set of a disk; their descriptors have passed the range test
pub record IsValid (s : Shape) (d : Bytes) (xs : List Extent) (start count : List ℕ) : Type 0 where
  pub valid : records_in s xs (numbers_on d) start count ≡ valid_on d
  pub tested : RunsTested s d xs start count
