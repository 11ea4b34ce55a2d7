-- The descriptor of a record that was read has passed the range test: functions over records may take block numbers as bytes.
use Rattle.model.proofs.Base.{ℕ, zero, suc, ◌+◌, ◌*◌, ◌≤◌, ◌<◌, arith, ◌≡◌, subst, List, Memᴰ, get_or, below, Bytes}
use mathlib.Core.List.Memᴰ
use Rattle.model.specs.Lists.{total}
use Rattle.model.specs.Journal.{journal_at, tags_of, blocks_of}
use Rattle.model.specs.declared.Shape.{Shape}
use Rattle.model.specs.declared.Tail.{Tail}
use Rattle.model.specs.declared.CommitLayout.{CommitLayout}
use Rattle.model.specs.declared.Committed.{Committed}
use Rattle.model.proofs.Limits.{InRange}
use Rattle.model.proofs.Journal.{KnownRecord}
use Rattle.model.proofs.Lists.{below_mem}
use Rattle.model.proofs.Totals.{total_last}
use Rattle.model.proofs.Records.{known_below, journal_known}
use Rattle.layout.specs.Narrow.{BlocksBelow}
use Rattle.layout.proofs.Narrow.{below_higher}
use Rattle.journal.specs.Records.{tail_for, committed_in, extent_at, record_in, run_in, SizedCommitted, RangeTested, ExtentTested, RunTested, RunsTested, descriptor_blocks}
use Rattle.journal.specs.declared.extents.Extent.{Extent}
use Rattle.journal.specs.Walk.{IsJournal, Behind, Reads}
use Rattle.journal.proofs.Blocks.{block_at}

-- ---- one transaction
pub known_tested : (y : CommitLayout) (s : Shape) (d : Bytes) (c k : ℕ) (e : Committed) → KnownRecord y s d c k e → RangeTested s d e
unfolding RangeTested BlocksBelow blocks_of tags_of descriptor_blocks
known_tested y s d c k e r i h =
    let q = known_below y s d c k e r i h in
    rw (block_at (journal_at s d e.core e.position) e.count i h) at q

-- B is at most 64
pub blocks_bytes : (s : Shape) (f : Bytes) (n : ℕ) → BlocksBelow s.blocks f n → InRange s → BlocksBelow 256 f n
blocks_bytes s f n t l = below_higher s.blocks f n t 256 (omega (arith, l.few_blocks))

pub tested_bytes : (s : Shape) (d : Bytes) (e : Committed) → RangeTested s d e → InRange s → (f : Bytes) → f ≡ journal_at s d e.core e.position → BlocksBelow 256 f e.count
unfolding RangeTested
tested_bytes s d e t l f q = rw q (blocks_bytes s (journal_at s d e.core e.position) e.count t l)

-- ---- a record as arrays have it
module _ (s : Shape) (d : Bytes) (xs : List Extent) where
  pub run_of : (start count : List ℕ) → RunsTested s d xs start count → (c : ℕ) → c < s.cores → RunTested s d xs c (get_or start c 0) (get_or count c 0)
  unfolding RunsTested
  run_of start count t c h = t c h

  module _ (c a n : ℕ) (t : RunTested s d xs c a n) (j : ℕ) where
    pub run_extent : j < n → ExtentTested s d c (extent_at xs (a + j))
    run_extent h = t.each j h

    pub run_place : j < n → a + j < 96
    run_place h = omega (arith, t.room)

tested_of : (s : Shape) (d : Bytes) (c : ℕ) (xs : List Extent) (i k : ℕ) → (record_in xs c k i).count ≤ 8 → RangeTested s d (record_in xs c k i)
    → ExtentTested s d c (extent_at xs i)
unfolding record_in RangeTested
tested_of s d c xs i k f t = record { few = f; below = t }

module _ (s : Shape) (d : Bytes) (c : ℕ) (x : Extent) (k : ℕ) (e : Committed) (q : e ≡ committed_in c k x) (t : ExtentTested s d c x) where
  pub extent_sized : c < s.cores → SizedCommitted s e
  extent_sized h = rw q (record { core = h; few = t.few })

  pub extent_tested : RangeTested s d e
  unfolding RangeTested
  extent_tested = rw q t.below

-- ---- the records that were read
pub total_few : (f : ℕ → ℕ) (n : ℕ) → ((b : ℕ) → b < n → f b ≤ 12) → total f (below n) ≤ 12 * n
unfolding total below
total_few f zero h = omega arith
total_few f (suc n) h = omega (arith, total_last f (below n) n, total_few f n (λ b l. h b (omega arith)), h n (omega arith))

pub reads_low : (y : CommitLayout) (s : Shape) (d : Bytes) (ts : List Tail) (most : List ℕ) (xs : List Extent) (start count : List ℕ) → Reads y s d ts most xs start count → InRange s
    → (c : ℕ) → c < s.cores → get_or start c 0 ≤ 84
unfolding Behind
reads_low y s d ts most xs start count r l c h =
    omega (arith, r.behind c h, l.few_cores, total_few (λ (b : ℕ). get_or count b 0) c (λ b g. r.few b (omega arith)))

pub reads_tested : (y : CommitLayout) (s : Shape) (d : Bytes) (ts : List Tail) (most : List ℕ) (xs : List Extent) (start count : List ℕ) → Reads y s d ts most xs start count → InRange s
    → RunsTested s d xs start count
unfolding RunsTested IsJournal run_in
reads_tested y s d ts most xs start count r l c h =
    record {
      room = omega (arith, r.few c h, reads_low y s d ts most xs start count r l c h);
      each = λ j g. extent_known j (journal_known y s d c (tail_for ts c) (get_or most c 0) _ (subst (Memᴰ (this j)) (r.journals c h) (Memᴰ.map this (below_mem (get_or count c 0) j g))));
    }
  where
    this : ℕ → Committed
    this j = record_in xs c ((tail_for ts c).number + j) (get_or start c 0 + j)

    extent_known : (j : ℕ) → (i : ℕ) × KnownRecord y s d c ((tail_for ts c).number + i) (this j) → ExtentTested s d c (extent_at xs (get_or start c 0 + j))
    extent_known j k = tested_of s d c xs (get_or start c 0 + j) ((tail_for ts c).number + j) k.1.few (known_tested y s d c _ (this j) k.1)
