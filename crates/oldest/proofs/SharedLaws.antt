-- The blocks of a transaction read from its record; whether a transaction in cells took one; two that share one, asked block by
-- block. One of lower stamp shares a block: a committed one of the records read, or a core's closed one.
use Rattle.model.proofs.Base.{ℕ, ◌+◌, ◌≤◌, ◌<◌, arith, ◌≡◌, sym, ap, subst, ◌∙◌, Bool, true, false, not, List, length}
use Rattle.model.proofs.Base.{get_or, eqb, lt-ltb, le-ltb, not-true, not-false, below, any}
use Rattle.model.proofs.Base.{Bytes, map, length-map, length-take}
use Rattle.std.proofs.lemmas.List.{same_lists}
use lib.Seq.{get_or-take}
use Rattle.model.proofs.Lists.{length_below, get_or_map_below}
use Rattle.layout.proofs.Loops.{some_map}
use Rattle.model.specs.Card.{taken, shape_of}
use Rattle.model.specs.Layout.{new_tag, pair_at}
use Rattle.model.specs.Journal.{journal_at, tags_of, blocks_of}
use Rattle.model.specs.Checkpoint.{share}
use Rattle.model.specs.declared.Shape.{Shape}
use Rattle.model.specs.declared.Card.{Card}
use Rattle.model.specs.declared.CommitLayout.TheVariants.{Numbers}
use Rattle.model.specs.declared.Committed.{Committed}
use Rattle.model.proofs.Lists.{any_mem, mem_any, get_or_mem, mem_get_or, mem_below, below_mem, bool_ext}
use Rattle.model.proofs.Limits.{InRange}
use Rattle.model.proofs.Records.{length_blocks_of, known_below}
use Rattle.layout.specs.Loops.{some}
use Rattle.layout.proofs.Narrow.{block_below}
use Rattle.journal.specs.declared.extents.Extent.{Extent}
use Rattle.journal.specs.Records.{numbers_of, records_in, SizedCommitted, RangeTested, descriptor_blocks}
use Rattle.journal.proofs.Blocks.{block_at}
use Rattle.journal.proofs.Tested.{known_tested, tested_bytes}
use Rattle.images.specs.Newest.{shares_below}
use Rattle.cells.specs.Cells.{transaction_size, block_place, byte_in, transaction_in, card_in, closed_place}
use Rattle.cells.proofs.ReadLaws.{stamp_read, block_read, closed_read}
use Rattle.oldest.specs.Oldest.{IsRead, lower_closed, closed_lower, lower_shares}

-- ---- a transaction read
pub is_tested : (s : Shape) (d : Bytes) (e : Committed) → IsRead s d e → RangeTested s d e
is_tested s d e r = known_tested Numbers s d e.core e.number e r.known

module _ (s : Shape) (d : Bytes) (e : Committed) (r : IsRead s d e) (i : ℕ) (b : Bytes) (p : b ≡ journal_at s d e.core e.position) (h : i < e.count) where
  pub block_fits : (pair_at new_tag b 16 i).block < 256
  block_fits = block_below 256 b e.count (tested_bytes s d e (is_tested s d e r) r.range b p) i h

  module _ (v : ℕ) (q : v ≡ (pair_at new_tag b 16 i).block) where
    pub block_is : v ≡ get_or (blocks_of s d e) i 0
    unfolding blocks_of tags_of descriptor_blocks
    block_is = q ∙ rw p (sym (block_at (journal_at s d e.core e.position) e.count i h))

    pub block_low : v < 64
    block_low = omega (arith, block_is, known_below Numbers s d e.core e.number e r.known i h, r.range.few_blocks)

pub is_sized : (s : Shape) (d : Bytes) (e : Committed) → IsRead s d e → SizedCommitted s e
is_sized s d e r = record { core = r.core; few = r.known.few }

module _ (x : Card) (s : Shape) (q : s ≡ shape_of x) where
  pub read_shape : (d : Bytes) (e : Committed) → IsRead (shape_of x) d e → IsRead s d e
  read_shape d e r = subst (λ (s : Shape). IsRead s d e) (sym q) r

-- ---- block b among those that the transaction at a place took
module _ (w : List ℕ) (a : ℕ) where
  blocks_taken : (n : ℕ) → n ≡ length (taken (transaction_in w a)) → n ≤ 8 → map (λ (i : ℕ). byte_in w (block_place a i)) (below n) ≡ taken (transaction_in w a)
  unfolding taken
  blocks_taken n e l =
      let long : length (map (λ (i : ℕ). byte_in w (block_place a i)) (below n)) ≡ n = length-map (below n) _ ∙ length_below n in
      same_lists _ _ (long ∙ e) (λ k d h.
      let q : k < n = omega (arith, long) in
      get_or_map_below _ n k d q
      ∙ sym (block_read w a k d (omega arith))
      ∙ sym (get_or-take (transaction_in w a).count (transaction_in w a).blocks k d (omega (arith, length-take (transaction_in w a).count (transaction_in w a).blocks, e))))

  pub block_among : (b n : ℕ) → n ≡ length (taken (transaction_in w a)) → n ≤ 8 → some n (λ (i : ℕ). eqb b (byte_in w (block_place a i))) ≡ any (eqb b) (taken (transaction_in w a))
  block_among b n e l = some_map (eqb b) (λ (i : ℕ). byte_in w (block_place a i)) n ∙ ap (any (eqb b)) (blocks_taken n e l)

-- ---- blocks shared
-- the block at place i is one of those
abbrev pub shares_at : List ℕ → List ℕ → ℕ → Bool
shares_at bs cs i = any (eqb (get_or bs i 0)) cs

some_share : (bs cs : List ℕ) → some (length bs) (shares_at bs cs) ≡ share bs cs
unfolding some share
some_share bs cs =
    bool_ext
    (λ h.
    let m = any_mem (λ (i : ℕ). any (eqb (get_or bs i 0)) cs) (below (length bs)) h in
    mem_any (λ (b : ℕ). any (eqb b) cs) (get_or_mem bs m.0 0 (mem_below (length bs) m.1)) m.2)
    (λ h.
    let m = any_mem (λ (b : ℕ). any (eqb b) cs) bs h in
    let i = mem_get_or m.1 0 in
    mem_any (λ (i : ℕ). any (eqb (get_or bs i 0)) cs) (below_mem (length bs) i.0 i.1) (ap (λ (b : ℕ). any (eqb b) cs) i.2 ∙ m.2))

pub shares_all : (s : Shape) (d : Bytes) (e : Committed) (cs : List ℕ) → some e.count (shares_at (blocks_of s d e) cs) ≡ share (blocks_of s d e) cs
shares_all s d e cs = ap (λ (n : ℕ). some n (shares_at (blocks_of s d e) cs)) (sym (length_blocks_of s d e)) ∙ some_share (blocks_of s d e) cs

-- ---- those of lower stamp
module _ (s : Shape) (d : Bytes) (e : Committed) (w : List ℕ) (a : ℕ) (g : Bool) (q : g ≡ (transaction_in w a).live) where
  pub closed_none : not g ≡ true → false ≡ lower_closed s d e (transaction_in w a)
  unfolding lower_closed
  closed_none h = rw (← q, not-true g h)

  module _ (h : not g ≡ false) where
    pub closed_later : e.stamp ≤ get_or w (a + 1) 0 → false ≡ lower_closed s d e (transaction_in w a)
    unfolding lower_closed
    closed_later l = rw (← q, not-false g h, ← stamp_read w a, le-ltb (get_or w (a + 1) 0) e.stamp l)

    pub closed_earlier : get_or w (a + 1) 0 < e.stamp → (r : Bool) → r ≡ share (blocks_of s d e) (taken (transaction_in w a)) → r ≡ lower_closed s d e (transaction_in w a)
    unfolding lower_closed
    closed_earlier l r z = z ∙ rw (← q, not-false g h, ← stamp_read w a, lt-ltb (get_or w (a + 1) 0) e.stamp l)

module _ (s : Shape) (c at : ℕ) (p : at ≡ closed_place c) (l : InRange s) (h : c < s.cores) where
  pub closed_in : at + transaction_size ≤ 423
  closed_in = omega (arith, l.few_cores)

  pub is_lower : (w : List ℕ) (d : Bytes) (e : Committed) (r : Bool) → r ≡ lower_closed s d e (transaction_in w at) → r ≡ closed_lower (card_in w) s d e c
  unfolding closed_lower
  is_lower w d e r q = q ∙ rw p (rw (closed_read w c (omega (arith, l.few_cores))))

-- a committed one, then a closed one; the numbers of those committed play no part
module _ (x : Card) (s : Shape) (d : Bytes) (xs : List Extent) (start count : List ℕ) (e : Committed) (g : Bool)
    (q : (ks : List ℕ) → g ≡ any (shares_below s d e) (records_in s xs ks start count)) where
  pub lower_committed : g ≡ true → true ≡ lower_shares x s d xs start count e
  unfolding lower_shares
  lower_committed t = rw (← q (numbers_of x.tails), t)

  pub lower_closed_lem : g ≡ false → (r : Bool) → r ≡ some s.cores (closed_lower x s d e) → r ≡ lower_shares x s d xs start count e
  unfolding lower_shares
  lower_closed_lem t r z = z ∙ rw (← q (numbers_of x.tails), t)
