-- Where the stores since the barrier lie: in a core's journal past what stands behind the barrier, or a home block of one that stored home
-- since then. So each store is of a block that none since the barrier was of, the image that it replaces is that of the disk behind
-- the barrier (`BetweenDisks`), and a cut that loses stores finds a mixture of the two disks.
use Prim.Native.Nat.{ℕ, suc, ◌+◌, ◌-◌, ◌*◌, ◌≤◌, ◌<◌}
use native.Mathlib.Omega.{arith}
use native.Mathlib.Decide.{dec_lt}
use mathlib.Core.Path.{◌≡◌, refl, sym, ap, ◌∙◌, subst}
use mathlib.Core.Logic.{◌⊎◌, ◌≢◌}
use mathlib.Core.Bool.{Bool, So}
use mathlib.Core.List.{List, [], ◌∷◌, ◌++◌}
use lib.ListN.{length, get_or, length-append, get_or-append}
use lib.Seq.{get_or_at}
use Rattle.model.specs.Lists.{any}
use Rattle.model.specs.Bytes.{Bytes, block_at, store}
use Rattle.model.specs.Shape.{home_block, journal_block}
use Rattle.model.specs.declared.Name.{Name}
use Rattle.model.specs.declared.Tail.{Tail}
use Rattle.model.specs.declared.Shape.{Shape}
use Rattle.model.proofs.Store.{length_store, block_stored, block_other, length_block_at}
use Rattle.model.proofs.Journal.{journal_low}
use Rattle.model.proofs.Lists.{cases, get_or_mem}
use Rattle.crash.specs.Book.{committed, is_closed, stage_count}
use Rattle.crash.specs.Ledger.{Ledger, record_blocks}
use Rattle.crash.proofs.Books.BookEntries.{uncommitted_name}
use Rattle.crash.specs.Claims.{IsBytes}
use Rattle.crash.proofs.Books.Largest.{stage_of}
use Rattle.crash.proofs.Disk.BlockBytes.{bytes_store, bytes_block_at}
use Rattle.crash.proofs.Disk.Relation.{IsBlock, WellFormed, contents}
use Rattle.crash.proofs.Disk.LedgerStages.{closed_present}
use Rattle.drive.specs.Since.{StoreKind, is_commit_of, commit_since, home_since, part_since, lost_since}
use Rattle.drive.specs.LostCommits.{ledger_without}
use Rattle.drive.proofs.Lost.Without.{Last}
use Rattle.drive.proofs.Lost.Mixed.{last_name, commit_place, whole, stored_part, commit_block, contents_is, contents_unlost, whole_held}
use Rattle.drive.proofs.Lost.Undo.{Apart, apart_more}
use Rattle.drive.proofs.Behind.Cached.{Cached}

-- ---- where a store since the barrier lies
pub data Place (l : Ledger) (tail_at : ℕ → Tail) (ks : List StoreKind) (k : ℕ) : Type 0 where
  in_journal : (c q : ℕ) → c < l.shape.cores → k ≡ journal_block l.shape c ((tail_at c).position + q)
      → length (contents (ledger_without (commit_since ks) l) c) ≤ q → q < length (contents l c) → So (part_since ks c) ⊎ So (commit_since ks (last_name l c)) → Place l tail_at ks k
  at_home : (t : Name) (m i : ℕ) → So (home_since ks t) → stage_of l.book t ≡ committed m → i < m → i < length (l.book.entry t).blocks
      → k ≡ home_block (get_or (l.book.entry t).blocks i 0) → Place l tail_at ks k

-- which of them is core c's commit since the barrier, and that its own bit says whether it is lost
pub record CommitAt (l : Ledger) (tail_at : ℕ → Tail) (ks : List StoreKind) (places : List ℕ) (c : ℕ) : Type 0 where
  pub index : ℕ
  pub within : index < length places
  pub place : get_or places index 0 ≡ commit_place l tail_at (commit_since ks) c
  pub says : (marked : ℕ → Bool) → lost_since marked ks (last_name l c) ≡ marked index

-- the blocks of core c's records that are committed
abbrev pub used_in : Ledger → ℕ → ℕ
used_in l c = record_blocks l.book c (l.book.oldest c) (l.book.uncommitted c - l.book.oldest c)

-- a block of the record that core c is storing is among them
pub record PartAt (l : Ledger) (tail_at : ℕ → Tail) (places : List ℕ) (c : ℕ) : Type 0 where
  pub index : ℕ
  pub within : index < length places
  pub step : ℕ
  pub stored : step < stage_count (stage_of l.book (uncommitted_name c l.book))
  pub place : get_or places index 0 ≡ journal_block l.shape c ((tail_at c).position + (used_in l c + step))

-- a home block of t is
pub record HomeAt (l : Ledger) (places : List ℕ) (t : Name) : Type 0 where
  pub index : ℕ
  pub within : index < length places
  pub step : ℕ
  pub took : step < length (l.book.entry t).blocks
  pub place : get_or places index 0 ≡ home_block (get_or (l.book.entry t).blocks step 0)

-- the disk behind the barrier, the disk now, and the stores between them: their blocks in order, and the images that they replaced
pub record BetweenDisks (l : Ledger) (tail_at : ℕ → Tail) (ks : List StoreKind) (behind now : Bytes) (places : List ℕ) (old : Bytes) : Type 0 where
  pub cached : Cached l tail_at (commit_since ks) (home_since ks) (part_since ks) behind now
  pub count : length places ≡ length ks
  pub few : length places ≤ 64
  pub lies : (j : ℕ) → j < length places → Place l tail_at ks (get_or places j 0)
  pub apart : Apart places
  pub size : length old ≡ 8192
  pub bytes : IsBytes old
  pub images : (j : ℕ) → j < length places → block_at old j ≡ block_at behind (get_or places j 0)
  -- every other block is the same on both disks
  pub same : (k : ℕ) → ((j : ℕ) → j < length places → get_or places j 0 ≢ k) → block_at behind k ≡ block_at now k
  pub commits : (c : ℕ) → c < l.shape.cores → So (commit_since ks (last_name l c)) → CommitAt l tail_at ks places c
  pub parts : (c : ℕ) → c < l.shape.cores → So (part_since ks c) → PartAt l tail_at places c
  pub homes : (t : Name) → So (home_since ks t) → HomeAt l places t

-- a commit that is lost is one since the barrier
pub lost_since_lem : (marked : ℕ → Bool) (ks : List StoreKind) (t : Name) → So (lost_since marked ks t) → So (commit_since ks t)
unfolding any
lost_since_lem marked [] t h = h
lost_since_lem marked (k ∷ ks) t h = go (lost_since_lem marked ks t) h
  where
    go : (So (lost_since marked ks t) → So (commit_since ks t)) → So (lost_since marked (k ∷ ks) t) → So (commit_since (k ∷ ks) t)
    go f h = cases (is_commit_of t k) (λ e. rw e refl) (λ e. rw e (f (rw e at h)))

-- ---- from it, what a cut asks for
pub place_low : {l : Ledger} → WellFormed l → {tail_at : ℕ → Tail} {ks : List StoreKind} {k : ℕ} → Place l tail_at ks k → k < 257
place_low {l} f (in_journal c q h e a b p) = rw e (journal_low f.range c _ h)
place_low {l} f (at_home t m i h s a b e) =
    rw e (omega (arith, f.range.few_blocks, (f.limits t (closed_present _ (ap is_closed s))).blocks _ (get_or_mem (l.book.entry t).blocks i 0 b)))

-- ---- one block more
module _ (places : List ℕ) (k : ℕ) where
  more_long : length (places ++ (k ∷ [])) ≡ suc (length places)
  more_long = (let e = length-append places (k ∷ []) in omega arith)

  at_old : (j : ℕ) → j < length places → get_or (places ++ (k ∷ [])) j 0 ≡ get_or places j 0
  at_old j h = get_or-append places (k ∷ []) 0 j h

  at_new : get_or (places ++ (k ∷ [])) (length places) 0 ≡ k
  at_new = get_or_at places k [] 0 (length places) refl

  by_new : (P : ℕ → Type 0) → ((j : ℕ) → j < length places → P j) → P (length places) → (j : ℕ) → j < length (places ++ (k ∷ [])) → P j
  by_new P f g j h = elim (dec_lt j (length places)) [ yes lt ↦ f j lt | no ge ↦ (let e : length places ≡ j = omega (arith, more_long) in subst P e g) ]

-- ---- what lay among them still does
module _ {l l₂ : Ledger} {tail_at tail₂ : ℕ → Tail} {ks : List StoreKind} {places : List ℕ} (kind : StoreKind) (k : ℕ) where
  pub commit_kept : (c : ℕ) → last_name l₂ c ≡ last_name l c → commit_place l tail_at (commit_since ks) c ≡ commit_place l₂ tail₂ (commit_since (kind ∷ ks)) c
      → ((marked : ℕ → Bool) → lost_since marked (kind ∷ ks) (last_name l c) ≡ lost_since marked ks (last_name l c)) → CommitAt l tail_at ks places c → CommitAt l₂ tail₂ (kind ∷ ks) (places ++ (k ∷ [])) c
  commit_kept c n p o x =
      record {
        index = x.index;
        within = omega (arith, x.within, more_long places k);
        place = at_old places k x.index x.within ∙ x.place ∙ p;
        says = λ marked. ap (lost_since marked (kind ∷ ks)) n ∙ o marked ∙ x.says marked;
      }

module _ {l l₂ : Ledger} {tail_at tail₂ : ℕ → Tail} {places : List ℕ} (k : ℕ) where
  pub part_kept : (c : ℕ) → l₂.shape ≡ l.shape → tail₂ c ≡ tail_at c → used_in l₂ c ≡ used_in l c
      → stage_count (stage_of l.book (uncommitted_name c l.book)) ≤ stage_count (stage_of l₂.book (uncommitted_name c l₂.book)) → PartAt l tail_at places c → PartAt l₂ tail₂ (places ++ (k ∷ [])) c
  part_kept c s t n m x =
      record {
        index = x.index;
        within = omega (arith, x.within, more_long places k);
        step = x.step;
        stored = omega (arith, x.stored);
        place = at_old places k x.index x.within ∙ x.place ∙ sym (ap (λ (y : Shape). journal_block y c ((tail₂ c).position + (used_in l₂ c + x.step))) s
            ∙ ap (λ (y : Tail). journal_block l.shape c (y.position + (used_in l₂ c + x.step))) t ∙ ap (λ (y : ℕ). journal_block l.shape c ((tail_at c).position + (y + x.step))) n);
      }

module _ {l l₂ : Ledger} {places : List ℕ} (k : ℕ) where
  pub home_kept : (t : Name) → (l₂.book.entry t).blocks ≡ (l.book.entry t).blocks → HomeAt l places t → HomeAt l₂ (places ++ (k ∷ [])) t
  home_kept t e x =
      record { index = x.index; within = omega (arith, x.within, more_long places k); step = x.step; took = rw e x.took; place = at_old places k x.index x.within ∙ rw e x.place }

-- ---- one store more
module _ {l l₂ : Ledger} {tail_at tail₂ : ℕ → Tail} {ks : List StoreKind} {behind now : Bytes} {places : List ℕ} {old : Bytes} (s : BetweenDisks l tail_at ks behind now places old)
    (kind : StoreKind) (k : ℕ) (b : Bytes) (block : IsBlock b) (size : length now ≡ 32896) (bytes : IsBytes now) (low : k < 257) (room : length places < 64)
    (fresh : (p : ℕ) → Place l tail_at ks p → p ≢ k) (kept : (p : ℕ) → Place l tail_at ks p → Place l₂ tail₂ (kind ∷ ks) p) where
  abbrev now₂ : Bytes
  now₂ = store now k b

  abbrev places₂ : List ℕ
  places₂ = places ++ (k ∷ [])

  -- 'The images replaced lie, in order of store, in a third lent slice'
  abbrev old₂ : Bytes
  old₂ = store old (length places) (block_at now k)

  fits : 128 * k + 128 ≤ length now
  fits = omega arith

  old_fits : 128 * length places + 128 ≤ length old
  old_fits = omega (arith, s.size)

  was_size : length (block_at now k) ≡ 128
  was_size = length_block_at 257 now (omega arith) k low

  new_apart : (j : ℕ) → j < length places → get_or places j 0 ≢ k
  new_apart j h = fresh (get_or places j 0) (s.lies j h)

  apart₂ : Apart places₂
  apart₂ = apart_more places k s.apart new_apart

  pub between_more : Cached l₂ tail₂ (commit_since (kind ∷ ks)) (home_since (kind ∷ ks)) (part_since (kind ∷ ks)) behind now₂ → Place l₂ tail₂ (kind ∷ ks) k
      → ((c : ℕ) → c < l₂.shape.cores → So (commit_since (kind ∷ ks) (last_name l₂ c)) → CommitAt l₂ tail₂ (kind ∷ ks) places₂ c)
      → ((c : ℕ) → c < l₂.shape.cores → So (part_since (kind ∷ ks) c) → PartAt l₂ tail₂ places₂ c) → ((t : Name) → So (home_since (kind ∷ ks) t) → HomeAt l₂ places₂ t)
      → BetweenDisks l₂ tail₂ (kind ∷ ks) behind now₂ places₂ old₂
  between_more cached place commits parts homes =
      record {
        cached = cached;
        count = omega (arith, more_long places k, s.count);
        few = omega (arith, more_long places k);
        lies =
            by_new places k (λ j. Place l₂ tail₂ (kind ∷ ks) (get_or places₂ j 0)) (λ j h. subst (Place l₂ tail₂ (kind ∷ ks)) (sym (at_old places k j h)) (kept _ (s.lies j h)))
            (subst (Place l₂ tail₂ (kind ∷ ks)) (sym (at_new places k)) place);
        apart = apart₂;
        size = length_store old (length places) (block_at now k) old_fits was_size ∙ s.size;
        bytes = bytes_store old (length places) (block_at now k) s.bytes (bytes_block_at now k bytes);
        images =
            by_new places k (λ j. block_at old₂ j ≡ block_at behind (get_or places₂ j 0))
            (λ j h. block_other old (length places) (block_at now k) old_fits was_size j (λ e. omega arith) ∙ s.images j h ∙ ap (block_at behind) (sym (at_old places k j h)))
            (block_stored old (length places) (block_at now k) old_fits was_size ∙ sym (s.same k new_apart) ∙ ap (block_at behind) (sym (at_new places k)));
        same =
            λ i h.
            s.same i (λ j a e. h j (omega (arith, more_long places k)) (at_old places k j a ∙ e))
            ∙ sym (block_other now k b fits block.size i (λ e. h (length places) (omega (arith, more_long places k)) (at_new places k ∙ sym e)));
        commits = commits;
        parts = parts;
        homes = homes;
      }

-- ---- places stay where they are, as journals and home stores go on
module _ (l l₂ : Ledger) (tail_at : ℕ → Tail) (ks ks₂ : List StoreKind) (cores : l₂.shape ≡ l.shape)
    (journals : (c : ℕ) → c < l.shape.cores → So (part_since ks c) ⊎ So (commit_since ks (last_name l c))
    → (length (contents (ledger_without (commit_since ks₂) l₂) c) ≤ length (contents (ledger_without (commit_since ks) l) c)) × (length (contents l c) ≤ length (contents l₂ c))
    × (So (part_since ks₂ c) ⊎ So (commit_since ks₂ (last_name l₂ c))))
    (homes : (t : Name) (m : ℕ) → So (home_since ks t) → stage_of l.book t ≡ committed m
    → So (home_since ks₂ t) × ((n : ℕ) × (stage_of l₂.book t ≡ committed n) × (m ≤ n)) × ((l₂.book.entry t).blocks ≡ (l.book.entry t).blocks)) where
  pub place_kept : (p : ℕ) → Place l tail_at ks p → Place l₂ tail_at ks₂ p
  place_kept p (in_journal c q h e lo hi o) =
      let j = journals c h o in
      in_journal c q (rw cores h) (rw cores e) (omega (arith, j.0)) (omega (arith, j.1)) j.2
  place_kept p (at_home t m i h s a b e) =
      let x = homes t m h s in
      at_home t x.1.0 i x.0 x.1.1 (omega (arith, x.1.2)) (rw x.2 b) (rw x.2 e)

-- behind the barrier a journal holds no more than now
pub without_shorter : {l : Ledger} (f : WellFormed l) (since : Name → Bool) → Last l since → (c : ℕ) → c < l.shape.cores
    → length (contents (ledger_without since l) c) ≤ length (contents l c)
without_shorter {l} f since last c h =
    let w = whole l c (l.book.uncommitted c - l.book.oldest c) in
    let n : length (contents l c) ≡ length w + length (stored_part l c) = ap length (contents_is l c) ∙ length-append w (stored_part l c) in
    cases (since (last_name l c))
    (λ p.
    let z = last (last_name l c) p in
    let e : length w ≡ length (contents (ledger_without since l) c) + 1 =
    ap length (whole_held f c h since last p) ∙ length-append (contents (ledger_without since l) c) (commit_block l c ∷ []) in
    omega arith)
    (λ p. let e = ap length (contents_unlost f c h since p) in omega arith)
