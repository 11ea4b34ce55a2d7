-- The records read, as an array has them: of each its extent, with its stamp, the position of its descriptor and the blocks taken, core by
-- core and one behind the other; of each core where its records begin among them, and how many count. A core's records are its run (paper 02, (c): 'a
-- beginning of each core's run'); with lower counts they are a smaller set.
use Rattle.std.specs.Prelude.{ℕ, ◌+◌, ◌≤◌, ◌<◌, ◌≡◌, cond, Option, Some, None, get_or, eqb}
use Rattle.std.specs.Coded.{le_prop}
use mathlib.Core.List.{List, map, flat_map}
use Rattle.model.specs.Lists.{below, any}
use Rattle.model.specs.Bytes.{Bytes}
use Rattle.model.specs.Card.{new_tail}
use Rattle.model.specs.Layout.{Tag, tags_in}
use Rattle.model.specs.Journal.{journal_at}
use Rattle.model.specs.Recovery.{place_of}
use Rattle.model.specs.declared.Shape.{Shape}
use Rattle.model.specs.declared.Tail.{Tail}
use Rattle.model.specs.declared.Committed.{Committed}
use Rattle.layout.specs.Narrow.{BlocksBelow}
use Rattle.journal.specs.declared.extents.Extent.{Extent}

-- ---- tails as an array holds them
abbrev pub tail_for : List Tail → ℕ → Tail
tail_for ts c = get_or ts c (new_tail 0 0)

-- the tail numbers alone: all that the names of transactions need
unfoldable pub numbers_of : List Tail → List ℕ
numbers_of ts = map (λ (c : ℕ). (tail_for ts c).number) (below 8)

-- ---- one record
-- what is kept of a transaction, and what an array of them holds before any is read
abbrev pub extent_of : Committed → Extent
extent_of e = record { stamp = e.stamp; position = e.position; count = e.count }

abbrev pub no_extent : Extent
no_extent = record { stamp = 0; position = 0; count = 0 }

-- the transaction again, of core c and with number k
abbrev pub committed_in : ℕ → ℕ → Extent → Committed
committed_in c k x = record { core = c; number = k; position = x.position; count = x.count; stamp = x.stamp }

-- ---- records; xs are the extents, ks the tail numbers
abbrev pub extent_at : List Extent → ℕ → Extent
extent_at xs i = get_or xs i no_extent

-- extents that differ in their stamps alone
abbrev pub SamePlaces : List Extent → List Extent → Type 0
SamePlaces xs zs = (i : ℕ) → ((extent_at zs i).position ≡ (extent_at xs i).position) × ((extent_at zs i).count ≡ (extent_at xs i).count)

-- the one at place i, of core c and with number k
unfoldable pub record_in : List Extent → ℕ → ℕ → ℕ → Committed
record_in xs c k i = committed_in c k (extent_at xs i)

-- n of core c from place a on; the first has number k
unfoldable pub run_in : List Extent → ℕ → ℕ → ℕ → ℕ → List Committed
run_in xs c k a n = map (λ (j : ℕ). record_in xs c (k + j) (a + j)) (below n)

-- those of all cores, in order of core and number
unfoldable pub records_in : Shape → List Extent → List ℕ → List ℕ → List ℕ → List Committed
records_in s xs ks start count = flat_map (λ (c : ℕ). run_in xs c (get_or ks c 0) (get_or start c 0) (get_or count c 0)) (below s.cores)

-- what functions over a transaction ask of it: a core that the disk has, and a count that a record can have
pub record SizedCommitted (s : Shape) (e : Committed) : Type 0 where
  pub core : e.core < s.cores
  pub few : e.count ≤ 8

-- ---- paper 02, (f): block numbers 'become single bytes once the range has been tested'
-- the descriptor of a transaction has passed the range test: each block that it took is below B
unfoldable pub RangeTested : Shape → Bytes → Committed → Type 0
RangeTested s d e = BlocksBelow s.blocks (journal_at s d e.core e.position) e.count

-- and so has that of core c's record with extent x, which counts no more blocks than one can have
pub record ExtentTested (s : Shape) (d : Bytes) (c : ℕ) (x : Extent) : Type 0 where
  pub few : x.count ≤ 8
  pub below : BlocksBelow s.blocks (journal_at s d c x.position) x.count

-- n records of core c from place a on: all within the arrays, and each has passed it
pub record RunTested (s : Shape) (d : Bytes) (xs : List Extent) (c a n : ℕ) : Type 0 where
  pub room : a + n ≤ 96
  pub each : (j : ℕ) → j < n → ExtentTested s d c (extent_at xs (a + j))

-- those of all cores: what functions over them ask for, since extents that no reading filled may lead to any block number
unfoldable pub RunsTested : Shape → Bytes → List Extent → List ℕ → List ℕ → Type 0
RunsTested s d xs start count = (c : ℕ) → c < s.cores → RunTested s d xs c (get_or start c 0) (get_or count c 0)

-- it is a fact: two proofs of it are the same
pub tested_prop : (s : Shape) (d : Bytes) (xs : List Extent) (start count : List ℕ) → IsProp (RunsTested s d xs start count)
unfolding RunsTested BlocksBelow
tested_prop s d xs start count = Prim.hlevel le_prop

-- ---- blocks of a descriptor
-- the place of block b among those given, if it is one of them
unfoldable pub place_among : ℕ → List ℕ → Option ℕ
place_among b bs = cond (any (eqb b) bs) (Some (place_of b bs)) None

-- the first n blocks of a descriptor
unfoldable pub descriptor_blocks : Bytes → ℕ → List ℕ
descriptor_blocks b n = map (λ (h : Tag). h.block) (tags_in b n)
