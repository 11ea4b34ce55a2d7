-- The tail after recovery is two above the last one read, at most 4,000,000,001. All journals of a disk are read, and the valid
-- set, the newest images and the lowest block left follow from the records.
use Rattle.model.proofs.Base.{ℕ, suc, ◌+◌, ◌≤◌, ◌<◌, min, arith, ◌≡◌, ap, subst, ◌∙◌, List, map, length, get_or}
use Rattle.model.proofs.Base.{replicate, get_or-replicate, ltb, lt-ltb, le-ltb, ltb-true, below, Bytes}
use Rattle.model.specs.Bytes.{part, block_at}
use Rattle.model.specs.Card.{new_tail}
use Rattle.model.specs.Layout.{shape_in, tail_in, unescaped}
use Rattle.model.specs.Journal.{journal}
use Rattle.model.specs.Valid.{in_sequence, valid_set, newest}
use Rattle.model.specs.Recovery.{shape_on, tail_on, layout_on, committed_by, committed_on, valid_on_by, valid_on, blocks_left, newest_image, tail_past, emptied_tail}
use Rattle.model.specs.Limits.{max_number}
use Rattle.model.specs.declared.Card.{Card}
use Rattle.model.specs.declared.Tail.{Tail}
use Rattle.model.specs.declared.Shape.{Shape}
use Rattle.model.specs.declared.CommitLayout.{CommitLayout}
use Rattle.std.specs.Prelude.{Option, None}
use Rattle.model.proofs.Lists.{cases, get_or_map_below}
use Rattle.model.proofs.Limits.{InRange}
use Rattle.master_block.specs.Tails.{tail_or_none}
use Rattle.journal.specs.declared.extents.Extent.{Extent}
use Rattle.journal.specs.Records.{numbers_of, records_in, RunsTested}
use Rattle.journal.specs.Walk.{Reads}
use Rattle.journal.proofs.Reading.{reads_count}
use Rattle.images.specs.declared.newest.Image.{Image}
use Rattle.valid.specs.Sets.{numbered}
use Rattle.images.specs.Newest.{found_image, first_of, held_from}
use Rattle.images.proofs.ImageBytes.{found_bytes}
use Rattle.valid.proofs.Commands.{core_journal, records_read, records_valid}
use Rattle.cells.specs.Cells.{world}
use Rattle.recovery.specs.Recovering.{numbers_on, tail_after, Shaped, OnDisk, Emptying, IsValid}

-- ---- tails
module _ (t : Tail) (n : ℕ) where
  -- a sum that stops at the largest number of 32 bits is past the limit
  pub next_number : (k a r : ℕ) → k ≡ n → a ≡ min (t.number + (k + 1)) 4294967295 → r ≡ min a 4000000001 → new_tail r 0 ≡ tail_past t n
  next_number k a r h e q =
      let z : r ≡ min (t.number + (n + 1)) (suc max_number) = omega (arith, h, e, q) in
      rw z

module _ (s : Shape) (ts : List Tail) (count : List ℕ) (c : ℕ) where
  pub after_none : s.cores ≤ c → new_tail 0 0 ≡ tail_after s ts count c
  unfolding tail_after
  after_none h = rw (le-ltb c s.cores h)

  pub after_some : c < s.cores → (r : Tail) → r ≡ tail_past (get_or ts c (new_tail 0 0)) (get_or count c 0) → r ≡ tail_after s ts count c
  unfolding tail_after
  after_some h r z = z ∙ rw (lt-ltb c s.cores h)

-- the tails of a master, and the records read from them, are those of the disk
module _ (d : Bytes) (s : Shape) (z : s ≡ shape_on d) (l : InRange s) (ts : List Tail) (e : ts ≡ map (tail_or_none (block_at d 0)) (below 8)) where
  disk_tail : (c : ℕ) → c < s.cores → get_or ts c (new_tail 0 0) ≡ tail_on d c
  unfolding tail_on tail_or_none block_at part shape_on
  disk_tail c h =
      let g : c < (shape_in (block_at d 0)).cores = subst (λ (x : Shape). c < x.cores) z h in
      let k : tail_or_none (block_at d 0) c ≡ tail_in (block_at d 0) c = rw (lt-ltb c (shape_in (block_at d 0)).cores g) in
      ap (λ (l : List Tail). get_or l c (new_tail 0 0)) e ∙ get_or_map_below (tail_or_none (block_at d 0)) 8 c (new_tail 0 0) (omega (arith, l.few_cores)) ∙ k

  whole_read : (y : CommitLayout) (c : ℕ) → c < s.cores → journal y s d c (tail_on d c) (get_or (replicate 8 s.journal) c 0) ≡ journal y s d c (tail_on d c) s.journal
  whole_read y c h = rw (get_or-replicate 8 c s.journal 0 (omega (arith, l.few_cores)))

  module _ (y : CommitLayout) (xs : List Extent) (start count : List ℕ) (r : Reads y s d ts (replicate 8 s.journal) xs start count) where
    -- they give the tails that recovery stores
    tail_emptied : (c : ℕ) → c < 8 → tail_after s ts count c ≡ emptied_tail y d c
    unfolding tail_after emptied_tail
    tail_emptied c h =
        rw (← z)
        (cases (ltb c s.cores)
        (λ t.
        let g : c < s.cores = ltb-true c s.cores t in
        let f : get_or count c 0 ≡ length (journal y s d c (tail_on d c) s.journal) =
        reads_count y s d ts (replicate 8 s.journal) xs start count r c g
        ∙ ap length (core_journal y l d ts (replicate 8 s.journal) xs start count r (tail_on d) (λ (c : ℕ). s.journal) disk_tail (whole_read y) c g) in
        rw (t, disk_tail c g, f))
        (λ t. rw t))

    -- all that is committed
    committed_read : records_in s xs (numbers_of ts) start count ≡ committed_by y d
    unfolding committed_by
    committed_read =
        rw (← z) (records_read y l d ts (replicate 8 s.journal) xs start count r (tail_on d) (λ (c : ℕ). s.journal) disk_tail (whole_read y))

    -- and of them the valid set
    valid_read : (begin few : List ℕ) → records_in s xs (numbers_of ts) begin few ≡ valid_set in_sequence y s d (numbered (numbers_of ts)) (records_in s xs (numbers_of ts) start count)
        → records_in s xs (numbers_on d) begin few ≡ valid_on_by in_sequence y d
    unfolding numbers_on valid_on_by committed_by block_at part
    valid_read begin few q =
        let k : numbers_of ts ≡ numbers_of (map (tail_or_none (block_at d 0)) (below 8)) = ap numbers_of e in
        rw (← k, ← z) (records_valid y l d ts (replicate 8 s.journal) xs start count r (tail_on d) (λ (c : ℕ). s.journal) disk_tail (whole_read y) in_sequence begin few q)

pub all_read : (s : Shape) (d : Bytes) (y : CommitLayout) → y ≡ layout_on d → (m : Bytes) → m ≡ block_at d 0 → (ts : List Tail) → ts ≡ map (tail_or_none m) (below 8)
    → (xs : List Extent) (start count : List ℕ) → Reads y s d ts (replicate 8 s.journal) xs start count → RunsTested s d xs start count → OnDisk s d y ts xs start count
all_read s d y q m z ts e xs start count r t = record { layout = q; tails = e ∙ ap (λ (b : Bytes). map (tail_or_none b) (below 8)) z; records = r; tested = t }

module _ (d : Bytes) (s : Shape) (g : Shaped s d) (y : CommitLayout) (ts : List Tail) (xs : List Extent) (start count : List ℕ) (r : OnDisk s d y ts xs start count) where
  master_tails : ts ≡ map (tail_or_none (block_at d 0)) (below 8)
  master_tails = r.tails

  records_on : Reads (layout_on d) s d ts (replicate 8 s.journal) xs start count
  records_on = subst (λ (z : CommitLayout). Reads z s d ts (replicate 8 s.journal) xs start count) r.layout r.records

  pub all_emptying : Emptying s d ts count
  unfolding Emptying
  all_emptying = tail_emptied d s g.shape g.range ts master_tails (layout_on d) xs start count records_on

  pub all_committed : records_in s xs (numbers_of ts) start count ≡ committed_on d
  all_committed = committed_read d s g.shape g.range ts master_tails (layout_on d) xs start count records_on

  pub same_tail : (c : ℕ) → c < s.cores → get_or ts c (new_tail 0 0) ≡ tail_on d c
  same_tail = disk_tail d s g.shape g.range ts master_tails

  pub same_numbers : numbers_of ts ≡ numbers_on d
  unfolding numbers_on
  same_numbers = ap numbers_of r.tails

  pub all_valid : (begin few : List ℕ)
      → records_in s xs (numbers_of ts) begin few ≡ valid_set in_sequence y s d (numbered (numbers_of ts)) (records_in s xs (numbers_of ts) start count)
      → RunsTested s d xs begin few → IsValid s d xs begin few
  all_valid begin few q t =
      record {
        valid = valid_read d s g.shape g.range ts master_tails (layout_on d) xs start count records_on begin few (rw r.layout at q);
        tested = t;
      }

-- ---- images
module _ (d : Bytes) (s : Shape) (g : Shaped s d) (xs : List Extent) (start count : List ℕ) (v : IsValid s d xs start count) where
  pub newest_bytes : (b : ℕ) (at : Image) → ((ks : List ℕ) → at ≡ found_image s d b (newest s d b None (records_in s xs ks start count)))
      → (i : Bytes) → i ≡ block_at d at.block → (r : Bytes) → r ≡ unescaped at.flag i → r ≡ newest_image in_sequence (layout_on d) d b
  unfolding newest_image
  newest_bytes b at q i p r h =
      let f : at ≡ found_image (shape_on d) d b (newest (shape_on d) d b None (valid_on d)) = q (numbers_on d) ∙ rw (v.valid, g.shape) in
      h ∙ rw (p, f) (found_bytes d b (newest (shape_on d) d b None (valid_on d)))

  -- the lowest block that the valid set holds from a place on
  pub left_first : (x : Card) (m : Bytes) (b : Option ℕ) → b ≡ held_from s d (records_in s xs (numbers_on d) start count) x.recovered → b ≡ first_of (blocks_left in_sequence (layout_on d) (world x d m))
  unfolding held_from blocks_left
  left_first x m b q = q ∙ rw (v.valid, g.shape)

-- ---- a disk lent on: the same shape and bytes
module _ (s t : Shape) (d e : Bytes) (p : t ≡ s) (q : e ≡ d) where
  pub shaped_same : Shaped s d → Shaped t e
  shaped_same h = rw (p, q) h

  module _ (xs : List Extent) (start count : List ℕ) where
    pub tested_same : RunsTested s d xs start count → RunsTested t e xs start count
    tested_same h = rw (p, q) h

    pub valid_same : IsValid s d xs start count → IsValid t e xs start count
    valid_same h = rw (p, q) h

    pub on_disk_same : (y : CommitLayout) (ts : List Tail) → OnDisk t e y ts xs start count → OnDisk s d y ts xs start count
    on_disk_same y ts h = rw (p, q) at h
