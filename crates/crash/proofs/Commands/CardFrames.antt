-- What a command leaves alone: the journal of a core and the core itself, where its closed transactions stay, since both
-- are read through the core's own entries, numbers, stamps and images alone, and nothing of the running one is stored.
-- A store of the master or of a home block leaves every journal; a card with one core replaced stays in agreement.
use Rattle.model.proofs.Base.{ℕ, ◌+◌, ◌-◌, ◌*◌, ◌≤◌, ◌<◌, arith, ℕ_discrete, ◌≡◌, refl, sym, ap, ◌∙◌, ◌≢◌, ◌⊎◌, inl, inr, true}
use Rattle.model.proofs.Base.{false, List, ◌++◌, length, take, length-set, get_or-set_same, get_or-set_other, Bytes}
use Rattle.model.specs.Bytes.{block_at, store}
use Rattle.model.specs.Shape.{home_block, journal_block}
use Rattle.model.specs.Card.{new_name, fresh_core, core_of, with_core, with_running, tail_of, holder_of}
use Rattle.model.specs.Layout.{has_head}
use Rattle.model.specs.Journal.{journal_at}
use Rattle.model.specs.Command.{World}
use Rattle.model.specs.Commit.{copy_block}
use Rattle.model.specs.declared.Name.{Name}
use Rattle.model.specs.declared.Tail.{Tail}
use Rattle.model.specs.declared.CommitLayout.{CommitLayout}
use Rattle.model.specs.declared.CommitLayout.TheVariants.{Numbers}
use Rattle.model.specs.declared.Transaction.{Transaction}
use Rattle.model.specs.declared.Core.{Core}
use Rattle.model.specs.declared.Card.{Card}
use Rattle.model.proofs.Lists.{flat_map_below}
use Rattle.crash.specs.Book.{Stage, absent, running, is_running, is_closed, stage_count, Entry, Book, book_holder, Write, image, blank}
use Rattle.crash.specs.Ledger.{Ledger, record_blocks, record_tags, record_of, with_book, image_now}
use Rattle.crash.proofs.Disk.LedgerStages.{closed_present}
use Rattle.crash.proofs.Books.BookEntries.{records_same, next_name, uncommitted_name}
use Rattle.crash.proofs.Disk.Relation.{first_waiting, WellFormed, contents, JournalStands, CoreUp, Matches, IsBlock, DiskStands, CardUp, holder_as}
use Rattle.model.proofs.Store.{length_store, block_stored, block_other}
use Rattle.model.proofs.Journal.{home_apart}
use Rattle.crash.specs.Claims.{IsBytes}
use Rattle.crash.proofs.Disk.BlockBytes.{bytes_store}

-- ---- one core of the card replaced
pub core_set : (x : Card) (c : ℕ) (k : Core) → c < length x.cores → core_of (with_core x c k) c ≡ k
unfolding core_of
core_set x c k h = get_or-set_same x.cores c k (fresh_core 0) h

pub core_other : (x : Card) (c : ℕ) (k : Core) (a : ℕ) → a ≢ c → core_of (with_core x c k) a ≡ core_of x a
unfolding core_of
core_other x c k a ne = get_or-set_other x.cores c a k (fresh_core 0) ne

-- ---- records and what a journal holds
-- blocks and names of an entry, its images and its stamp make its record
pub record_same : (l l₂ : Ledger) (t : Name) → (l₂.book.entry t).blocks ≡ (l.book.entry t).blocks → (l₂.book.entry t).names ≡ (l.book.entry t).names
    → l₂.images t ≡ l.images t → l₂.stamp t ≡ l.stamp t → record_of l₂ t ≡ record_of l t
unfolding record_of record_tags
record_same l l₂ t bs ns im st = simp (bs, ns, im, st)

pub contents_same : (l l₂ : Ledger) (c : ℕ) → l₂.book.oldest c ≡ l.book.oldest c → l₂.book.uncommitted c ≡ l.book.uncommitted c
    → ((i : ℕ) → i < l.book.uncommitted c → record_of l₂ (new_name c i) ≡ record_of l (new_name c i))
    → take (stage_count (l₂.book.entry (uncommitted_name c l.book)).stage) (record_of l₂ (uncommitted_name c l.book))
    ≡ take (stage_count (l.book.entry (uncommitted_name c l.book)).stage) (record_of l (uncommitted_name c l.book))
    → contents l₂ c ≡ contents l c
unfolding contents
contents_same l l₂ c o u f g =
    rw (o, u, g)
    (ap (λ (x : List Bytes). x ++ take (stage_count (l.book.entry (uncommitted_name c l.book)).stage) (record_of l (uncommitted_name c l.book)))
    (flat_map_below (λ (i : ℕ). record_of l₂ (new_name c (l.book.oldest c + i))) (λ (i : ℕ). record_of l (new_name c (l.book.oldest c + i)))
    (l.book.uncommitted c - l.book.oldest c) (λ i h. f (l.book.oldest c + i) (omega arith))))

-- ---- a core whose closed transactions stay
pub record SameClosed (l l₂ : Ledger) (c : ℕ) : Type 0 where
  pub shape : l₂.shape ≡ l.shape
  pub oldest : l₂.book.oldest c ≡ l.book.oldest c
  pub uncommitted : l₂.book.uncommitted c ≡ l.book.uncommitted c
  pub next : l₂.book.next c ≡ l.book.next c
  pub entry : (i : ℕ) → i < l.book.next c → l₂.book.entry (new_name c i) ≡ l.book.entry (new_name c i)
  pub stamp : (i : ℕ) → i < l.book.next c → l₂.stamp (new_name c i) ≡ l.stamp (new_name c i)
  pub images : (i : ℕ) → i < l.book.next c → l₂.images (new_name c i) ≡ l.images (new_name c i)

unstarted : (g : Stage) → (g ≡ absent) ⊎ (g ≡ running) → stage_count g ≡ 0
unstarted g (inl e) = rw e
unstarted g (inr e) = rw e

module _ (l : Ledger) (fine : WellFormed l) (c : ℕ) (in_range_lem : c < l.shape.cores) where
  -- of the running one, or of the next to open, nothing is stored
  pub none_stored : stage_count (l.book.entry (next_name c l.book)).stage ≡ 0
  none_stored = unstarted (l.book.entry (next_name c l.book)).stage (fine.ranks c in_range_lem).current

  module _ (l₂ : Ledger) (same : SameClosed l l₂ c) where
    same_record : (i : ℕ) → i < l.book.next c → record_of l₂ (new_name c i) ≡ record_of l (new_name c i)
    same_record i h = record_same l l₂ (new_name c i) (ap (λ (e : Entry). e.blocks) (same.entry i h)) (ap (λ (e : Entry). e.names) (same.entry i h)) (same.images i h) (same.stamp i h)

    pub contents_stay : stage_count (l₂.book.entry (next_name c l.book)).stage ≡ 0 → contents l₂ c ≡ contents l c
    contents_stay z =
        let r = fine.ranks c in_range_lem in
        contents_same l l₂ c same.oldest same.uncommitted (λ i h. same_record i (omega (arith, r.mid)))
        (elim (ℕ_discrete (l.book.uncommitted c) (l.book.next c)) [
          | yes e ↦ rw (e, z, none_stored) refl
          | no ne ↦ (let h : l.book.uncommitted c < l.book.next c = omega (arith, r.mid) in rw (same.entry (l.book.uncommitted c) h, same_record (l.book.uncommitted c) h) refl)
        ])

    total_stays : (n : ℕ) → n ≤ l.book.next c → record_blocks l₂.book c (l.book.oldest c) (n - l.book.oldest c) ≡ record_blocks l.book c (l.book.oldest c) (n - l.book.oldest c)
    total_stays n h =
        records_same l.book l₂.book c (l.book.oldest c) (n - l.book.oldest c) (λ j p q. ap (λ (e : Entry). length e.blocks) (same.entry j (omega arith)))

    -- its journal, with the running one's reserve
    pub journal_stays : (d d₂ : Bytes) (t : Tail) → stage_count (l₂.book.entry (next_name c l.book)).stage ≡ 0
        → (is_running (l₂.book.entry (next_name c l.book)).stage ≡ true
        → record_blocks l.book c (l.book.oldest c) (l.book.next c - l.book.oldest c) + (length (l₂.book.entry (next_name c l.book)).blocks + 2) ≤ l.shape.journal)
        → ((q : ℕ) → journal_at l.shape d₂ c q ≡ journal_at l.shape d c q) → JournalStands l d c t → JournalStands l₂ d₂ c t
    journal_stays d d₂ t z reserve at j =
        let r = fine.ranks c in_range_lem in
        let held : contents l₂ c ≡ contents l c = contents_stay z in
        let total = total_stays (l.book.next c) (omega arith) in
        record {
          number = rw same.oldest j.number;
          position = rw same.shape j.position;
          stands = rw (held, same.shape) (λ q h. at (t.position + q) ∙ j.stands q h);
          clear = rw (same.shape, same.uncommitted) (λ i q h. rw (at q) (j.clear i q h));
          room = rw (same.oldest, same.next, same.shape, total) j.room;
          reserved = rw (same.oldest, same.next, same.shape, total) reserve;
        }

    -- the core of the card, with a running transaction that matches
    pub core_stays : (m m₂ : Bytes) (k : Core) (t : Transaction)
        → (is_running (l₂.book.entry (next_name c l.book)).stage ≡ true → Matches t (l₂.book.entry (next_name c l.book)))
        → (is_running (l₂.book.entry (next_name c l.book)).stage ≡ false → t.live ≡ false)
        → ((i : ℕ) → i < 8 → block_at m₂ (copy_block c i) ≡ block_at m (copy_block c i)) → CoreUp l m c k → CoreUp l₂ m₂ c (with_running k t)
    core_stays m m₂ k t run idle copy u =
        let r = fine.ranks c in_range_lem in
        let n = l.book.uncommitted c in
        let o = l.book.oldest c in
        let e : n < l.book.next c → l₂.book.entry (new_name c n) ≡ l.book.entry (new_name c n) = same.entry n in
        record {
          next = rw same.next u.next;
          one = rw (same.next, same.uncommitted) u.one;
          used = rw (same.oldest, same.uncommitted, total_stays n r.mid) u.used;
          runs = rw same.next run;
          idle = rw same.next idle;
          closing = rw (same.uncommitted, same.next) (λ h. rw (e h) (u.closing h));
          stored = rw (same.uncommitted, same.next) (λ h. rw (e h, same.stamp n h) (u.stored h));
          copies = rw (same.uncommitted, same.next) (λ h. rw (e h, same.images n h) (λ i b. copy i (omega (arith, few h)) ∙ u.copies h i b));
          none_closing = rw (same.uncommitted, same.next) u.none_closing;
          homed = rw (same.oldest, same.uncommitted) (λ h. rw (same.entry o (omega (arith, r.mid))) (u.homed h));
          none_homed = rw (same.oldest, same.uncommitted) u.none_homed;
        }
      where
        few : l.book.uncommitted c < l.book.next c → length (l.book.entry (uncommitted_name c l.book)).blocks ≤ 8
        few h =
            let s = first_waiting (fine.ranks c in_range_lem) h in
            (fine.limits (uncommitted_name c l.book) (closed_present _ (ap is_closed s.1))).few

-- ---- a store below the journals, of the master or of a home block
module _ {y : CommitLayout} {l : Ledger} {d : Bytes} {tail_at : ℕ → Tail} (f : WellFormed l) (z : DiskStands y l d tail_at) (k : ℕ) (low : k ≤ l.shape.blocks) (x : Bytes) (block : IsBlock x) where
  low_fits : 128 * k + 128 ≤ length d
  low_fits = rw z.size (omega (arith, f.range.few_blocks))

  pub low_stored : block_at (store d k x) k ≡ x
  low_stored = block_stored d k x low_fits block.size

  pub low_other : (j : ℕ) → j ≢ k → block_at (store d k x) j ≡ block_at d j
  low_other = block_other d k x low_fits block.size

  pub low_journal : (c q : ℕ) → journal_at l.shape (store d k x) c q ≡ journal_at l.shape d c q
  unfolding journal_at
  low_journal c q = low_other (journal_block l.shape c q) (λ e. home_apart l.shape c q k low (sym e))

  pub low_size : length (store d k x) ≡ 32896
  low_size = length_store d k x low_fits block.size ∙ z.size

  pub low_bytes : IsBytes (store d k x)
  low_bytes = bytes_store d k x z.bytes block.bytes

-- a home store leaves the master and the journals
pub home_stands : {y : CommitLayout} {l : Ledger} {d : Bytes} {tail_at : ℕ → Tail} → WellFormed l → DiskStands y l d tail_at → (b : ℕ) → b < l.shape.blocks → (x : Bytes) → IsBlock x
    → DiskStands y l (store d (home_block b) x) tail_at
home_stands {l = l} {tail_at = tail_at} f z b h x block =
    let low : home_block b ≤ l.shape.blocks = omega arith in
    let at = low_journal f z (home_block b) low x block in
    record {
      size = low_size f z (home_block b) low x block;
      bytes = low_bytes f z (home_block b) low x block;
      master = low_other f z (home_block b) low x block 0 (omega arith) ∙ z.master;
      numbered = z.numbered;
      journals =
          λ c g.
          let j = z.journals c g in
          record {
            number = j.number;
            position = j.position;
            stands = λ q k. at c ((tail_at c).position + q) ∙ j.stands q k;
            clear = λ i q k. ap (has_head 2 i) (at c q) ∙ j.clear i q k;
            room = j.room;
            reserved = j.reserved;
          };
    }

-- ---- a card with one core replaced over another disk, where the book's writes and holders stay
pub core_up : {l : Ledger} {w : World} → CardUp l w → (c : ℕ) (x : Core) (k : Book) (d : Bytes) → k.writes ≡ l.book.writes
    → ((b : ℕ) → book_holder k b l.book.writes ≡ book_holder l.book b l.book.writes) → WellFormed (with_book l k) → DiskStands Numbers (with_book l k) d (tail_of w.card)
    → ((a : ℕ) → a < l.shape.cores → CoreUp (with_book l k) w.memory a (core_of (with_core w.card c x) a))
    → CardUp (with_book l k) (record { card = with_core w.card c x; disk = d; memory = w.memory })
unfolding tail_of holder_of image_now
core_up {l} {w} u c x k d writes holder fine disk cores =
    record {
      phase = u.phase;
      ledger = u.ledger;
      shape = u.shape;
      closes = u.closes;
      memory = u.memory;
      memory_bytes = u.memory_bytes;
      eight_tails = u.eight_tails;
      eight_cores = length-set w.card.cores c x ∙ u.eight_cores;
      holder_room = u.holder_room;
      well_formed = fine;
      disk = disk;
      cores = cores;
      holders = λ b h. u.holders b h ∙ ap holder_as (sym (ap (book_holder k b) writes ∙ holder b));
      images = λ b h g. u.images b h g ∙ ap (λ (ws : List Write). image (image blank l.saved) ws b) (sym writes);
    }
