-- CLOSE keeps card and ledger in agreement: the running transaction holds the blocks that it took, so their memory
-- images are the current ones, and these are copied. The first copies of its core change, and no other block of memory.
-- Its number and its stamp are far from the width of their fields.
use Rattle.model.proofs.Base.{ℕ, zero, suc, ◌+◌, ◌-◌, ◌*◌, ◌%◌, ◌^◌, ◌≤◌, ◌<◌, arith, ℕ_discrete, add-zero, ◌≡◌, refl, sym, ap}
use Rattle.model.proofs.Base.{subst, ◌∙◌, ◌≢◌, true, some, List, [], ◌∷◌, Memᴰ, length, get_or, length-set, get_or-set_same}
use Rattle.model.proofs.Base.{get_or-set_other, Bytes, map, mem_head, mem_tail}
use native.Mathlib.Nat.{zero-add}
use Rattle.model.specs.Bytes.{block_at, store}
use Rattle.model.specs.Card.{new_name, fresh_core, taken, highest_of, tail_of, core_of, holder_of, is_held}
use Rattle.model.specs.Command.{World}
use Rattle.model.specs.Commit.{copy_block, copied, closed as closedOutcome, closed_core, closed_card}
use Rattle.model.specs.declared.CommitLayout.TheVariants.{Numbers}
use Rattle.model.specs.declared.Name.{Name}
use Rattle.model.specs.declared.Core.{Core}
use Rattle.model.proofs.Lists.{get_or_mem, get_or_map}
use Rattle.model.proofs.Store.{length_store, length_block_at, block_stored, block_other}
use Rattle.model.proofs.Sizes.{length_copied}
use Rattle.crash.specs.Book.{absent, running, closed, is_running, Entry, staged, close_book, book_holder}
use Rattle.crash.specs.Ledger.{Ledger, close_ledger, image_now, record_blocks, copies_stored}
use Rattle.crash.specs.Claims.{IsBytes}
use Rattle.crash.proofs.Books.Tests.{clash}
use Rattle.crash.proofs.Books.BookEntries.{other_number, other_core, change_at, raise_at, raise_other, records_snoc, next_name, oldest_name}
use Rattle.crash.proofs.Books.BookSteps.{Restages, restages_records, close_restages, close_book_lem, close_holder, close_stamp, close_images, close_stamp_other, close_images_other}
use Rattle.crash.proofs.Disk.BlockBytes.{bytes_store, bytes_block_at}
use Rattle.crash.proofs.Disk.Relation.{sum_next, WellFormed, contents, JournalStands, DiskStands, Matches, CoreUp, holder_as, CardUp}
use Rattle.crash.proofs.Disk.LedgerStages.{running_present}
use Rattle.crash.proofs.Disk.LedgerRanks.{sum_low}
use Rattle.crash.proofs.Commands.CardFrames.{SameClosed, record_same, contents_same, none_stored, journal_stays, core_stays}

-- ---- copies
module _ (c : ℕ) (eight : c < 8) where
  fits : (m : Bytes) (i : ℕ) → length m ≡ 16384 → i < 8 → 128 * copy_block c i + 128 ≤ length m
  unfolding copy_block
  fits m i n h = omega arith

  length_image : (m : Bytes) (b : ℕ) → length m ≡ 16384 → length (block_at m (b % 64)) ≡ 128
  length_image m b n = length_block_at 128 m n (b % 64) (omega arith)

  bytes_copied : (bs : List ℕ) (i : ℕ) (m : Bytes) → IsBytes m → IsBytes (copied c i bs m)
  unfolding copied
  bytes_copied [] i m h = h
  bytes_copied (b ∷ bs) i m h = bytes_copied bs (suc i) (store m (copy_block c i) (block_at m (b % 64))) (bytes_store m (copy_block c i) (block_at m (b % 64)) h (bytes_block_at m (b % 64) h))

  -- other blocks stay
  copied_other : (bs : List ℕ) (i : ℕ) (m : Bytes) → length m ≡ 16384 → i + length bs ≤ 8 → (k : ℕ)
      → ((j : ℕ) → i ≤ j → j < i + length bs → k ≢ copy_block c j) → block_at (copied c i bs m) k ≡ block_at m k
  unfolding copied
  copied_other [] i m n h k ne = refl
  copied_other (b ∷ bs) i m n h k ne =
      let z = length_image m b n in
      let g = fits m i n (omega arith) in
      copied_other bs (suc i) (store m (copy_block c i) (block_at m (b % 64))) (length_store m (copy_block c i) (block_at m (b % 64)) g z ∙ n) (omega arith) k (λ j a e. ne j (omega arith) (omega arith))
      ∙ block_other m (copy_block c i) (block_at m (b % 64)) g z k (ne i (omega arith) (omega arith))

  copies_apart : (i j : ℕ) → i ≢ j → copy_block c i ≢ copy_block c j
  unfolding copy_block
  copies_apart i j ne e = ne (omega arith)

  images_apart : (k j : ℕ) → k < 64 → k ≢ copy_block c j
  unfolding copy_block
  images_apart k j h e = omega arith

  -- the copies are the images
  copied_in : (bs : List ℕ) (i : ℕ) (m : Bytes) → length m ≡ 16384 → i + length bs ≤ 8 → (j : ℕ) → j < length bs
      → block_at (copied c i bs m) (copy_block c (i + j)) ≡ block_at m (get_or bs j 0 % 64)
  unfolding copied
  copied_in [] i m n h j g = absurd (omega arith)
  copied_in (b ∷ bs) i m n h zero g =
      let z = length_image m b n in
      let f = fits m i n (omega arith) in
      rw (add-zero i)
      (copied_other bs (suc i) (store m (copy_block c i) (block_at m (b % 64))) (length_store m (copy_block c i) (block_at m (b % 64)) f z ∙ n) (omega arith) (copy_block c i)
      (λ j a e. copies_apart i j (omega arith))
      ∙ block_stored m (copy_block c i) (block_at m (b % 64)) f z)
  copied_in (b ∷ bs) i m n h (suc j) g =
      let z = length_image m b n in
      let f = fits m i n (omega arith) in
      let e : i + suc j ≡ suc i + j = omega arith in
      rw e
      (copied_in bs (suc i) (store m (copy_block c i) (block_at m (b % 64))) (length_store m (copy_block c i) (block_at m (b % 64)) f z ∙ n) (omega arith) j (omega arith)
      ∙ block_other m (copy_block c i) (block_at m (b % 64)) f z (get_or bs j 0 % 64) (images_apart (get_or bs j 0 % 64) i (omega arith)))

  -- where the images are those that f gives, they are stored one after the other
  copies_stored_lem : (f : ℕ → Bytes) (bs : List ℕ) (i : ℕ) (m : Bytes) → length m ≡ 16384 → i + length bs ≤ 8 → ((b : ℕ) → Memᴰ b bs → block_at m (b % 64) ≡ f b)
      → copied c i bs m ≡ copies_stored c i (map f bs) m
  unfolding copied copies_stored
  copies_stored_lem f [] i m n h e = refl
  copies_stored_lem f (b ∷ bs) i m n h e =
      let z = length_image m b n in
      let g = fits m i n (omega arith) in
      copies_stored_lem f bs (suc i) (store m (copy_block c i) (block_at m (b % 64))) (length_store m (copy_block c i) (block_at m (b % 64)) g z ∙ n) (omega arith)
      (λ j q. block_other m (copy_block c i) (block_at m (b % 64)) g z (j % 64) (images_apart (j % 64) i (omega arith)) ∙ e j (mem_tail q))
      ∙ ap (λ (y : Bytes). copies_stored c (suc i) (map f bs) (store m (copy_block c i) y)) (e b (mem_head refl))

-- copies of different cores
cores_copies : (a c i j : ℕ) → i < 8 → j < 8 → a ≢ c → copy_block a i ≢ copy_block c j
unfolding copy_block
cores_copies a c i j h g ne e = ne (omega arith)

module _ {l : Ledger} {w : World} (u : CardUp l w) (c : ℕ) (in_range_lem : c < l.shape.cores)
    (runs : (l.book.entry (next_name c l.book)).stage ≡ running) (free : l.book.uncommitted c ≡ l.book.next c)
    (holds : (b : ℕ) → Memᴰ b (l.book.entry (next_name c l.book)).blocks → book_holder l.book b l.book.writes ≡ some (next_name c l.book))
    (fine : WellFormed (close_ledger c l)) where
  abbrev t : Name
  t = next_name c l.book

  abbrev x : Core
  x = core_of w.card c

  abbrev l₂ : Ledger
  l₂ = close_ledger c l

  abbrev m₂ : Bytes
  m₂ = copied c 0 (taken x.running) w.memory

  -- ---- the ledger afterwards
  abbrev new : Restages l.book (close_book c l.book) t (closed 0)
  new = close_restages c l.book

  new_entry : l₂.book.entry t ≡ staged (closed 0) (l.book.entry t)
  unfolding close_ledger close_book
  new_entry = change_at t (staged (closed 0)) l.book.entry

  new_other : (v : Name) → v ≢ t → (l₂.book.entry v ≡ l.book.entry v) × (l₂.stamp v ≡ l.stamp v) × (l₂.images v ≡ l.images v)
  new_other v ne = (rw (close_book_lem l c) (new.other v ne), close_stamp_other l c v ne, close_images_other l c v ne)

  new_next : l₂.book.next c ≡ suc (l.book.next c)
  unfolding close_ledger close_book
  new_next = raise_at c l.book.next

  new_numbers : ((a : ℕ) → l₂.book.oldest a ≡ l.book.oldest a) × ((a : ℕ) → l₂.book.uncommitted a ≡ l.book.uncommitted a) × ((a : ℕ) → a ≢ c → l₂.book.next a ≡ l.book.next a)
  unfolding close_ledger close_book
  new_numbers = (λ a. refl, λ a. refl, raise_other c l.book.next)

  others : (a : ℕ) → a ≢ c → SameClosed l l₂ a
  others a ne =
      let o : (i : ℕ) → new_name a i ≢ t = λ i. other_core i (l.book.next c) ne in
      record {
        shape = unfold close_ledger in refl;
        oldest = new_numbers.0 a;
        uncommitted = new_numbers.1 a;
        next = new_numbers.2 a ne;
        entry = λ i h. (new_other (new_name a i) (o i)).0;
        stamp = λ i h. (new_other (new_name a i) (o i)).1;
        images = λ i h. (new_other (new_name a i) (o i)).2;
      }

  new_total : (n : ℕ) → record_blocks l₂.book c (l.book.oldest c) n ≡ record_blocks l.book c (l.book.oldest c) n
  new_total n = rw (close_book_lem l c) (restages_records new c (l.book.oldest c) n)

  -- the next one to open
  unopened : (l₂.book.entry (new_name c (suc (l.book.next c)))).stage ≡ absent
  unopened =
      ap (λ (e : Entry). e.stage) (new_other (new_name c (suc (l.book.next c))) (other_number c (omega arith))).0
      ∙ (u.well_formed.ranks c in_range_lem).rest (suc (l.book.next c)) (omega arith)

  -- ---- the journal
  same_contents : contents l₂ c ≡ contents l c
  same_contents =
      contents_same l l₂ c (new_numbers.0 c) (new_numbers.1 c)
      (λ i h.
      let o = new_other (new_name c i) (other_number c (omega arith)) in
      record_same l l₂ (new_name c i) (ap (λ (e : Entry). e.blocks) o.0) (ap (λ (e : Entry). e.names) o.0) o.2 o.1)
      (rw (free, new_entry, runs) refl)

  own_journal : JournalStands l₂ w.disk c (tail_of w.card c)
  unfolding close_ledger
  own_journal =
      let j = u.disk.journals c in_range_lem in
      let r = u.well_formed.ranks c in_range_lem in
      let o = l.book.oldest c in
      let n = l.book.next c in
      let z : suc n - o ≡ suc (n - o) = omega (arith, r.low) in
      let a : o + (n - o) ≡ n = omega (arith, r.low) in
      let total : record_blocks l.book c o (suc (n - o)) ≡ record_blocks l.book c o (n - o) + (length (l.book.entry t).blocks + 2) = rw a at (records_snoc l.book c o (n - o)) in
      record {
        number = rw (new_numbers.0 c) j.number;
        position = j.position;
        stands = rw same_contents j.stands;
        clear = rw (new_numbers.1 c) j.clear;
        room = rw (new_numbers.0 c, new_next, z, new_total (suc (n - o)), total) (j.reserved (ap is_running runs));
        reserved = rw new_next (λ h. clash h (ap is_running unopened));
      }

  disk_stands : DiskStands Numbers l₂ w.disk (tail_of w.card)
  unfolding close_ledger
  disk_stands =
      record {
        size = u.disk.size;
        bytes = u.disk.bytes;
        master = u.disk.master;
        numbered = λ a h g. refl;
        journals =
            λ a h.
            elim (ℕ_discrete a c) [
              | yes e ↦ subst (λ (i : ℕ). JournalStands l₂ w.disk i (tail_of w.card i)) (sym e) own_journal
              | no ne ↦ (let v = (new_other (next_name a l.book) (other_core (l.book.next a) (l.book.next c) ne)).0 in
                  journal_stays l u.well_formed a h l₂ (others a ne) w.disk w.disk (tail_of w.card a)
                  (rw v (none_stored l u.well_formed a h)) (rw v (u.disk.journals a h).reserved) (λ q. refl) (u.disk.journals a h))
            ];
      }

  -- ---- memory and the card afterwards
  matches : Matches x.running (l.book.entry t)
  matches = (u.cores c in_range_lem).runs (ap is_running runs)

  few : length (taken x.running) ≤ 8
  few = rw matches.blocks (u.well_formed.limits t (running_present _ runs)).few

  eight : c < 8
  eight = omega (arith, u.well_formed.range.few_cores)

  low_next : l.book.next c ≤ 4000000000
  low_next = (u.well_formed.limits t (running_present _ runs)).high

  low_closes : suc l.closes ≤ 32000000008
  low_closes =
      let h : suc l.closes ≤ sum_next l₂.book l.shape.cores = unfold close_ledger in fine.closes in
      omega (arith, u.well_formed.range.few_cores, sum_low l₂.book l.shape.cores (unfold close_ledger in λ a g. (fine.ranks a g).top))

  -- the images of its blocks are the current ones
  current_image : (b : ℕ) → Memᴰ b (l.book.entry t).blocks → block_at w.memory (b % 64) ≡ image_now l b
  current_image b m =
      let g : b < l.shape.blocks = (u.well_formed.limits t (running_present _ runs)).blocks b m in
      let e : b % 64 ≡ b = omega (arith, u.well_formed.range.few_blocks) in
      let held : is_held (holder_of w.card b) ≡ true = ap is_held (u.holders b g ∙ ap holder_as (holds b m)) in
      rw e (u.images b g held)

  copied_image : (i : ℕ) → i < length (l.book.entry t).blocks → block_at m₂ (copy_block c i) ≡ get_or (l₂.images t) i []
  copied_image i h =
      let bs = (l.book.entry t).blocks in
      rw (close_images l c, matches.blocks)
      ((rw zero-add at (copied_in c eight bs 0 w.memory u.memory (omega (arith, few, ap length matches.blocks)) i h))
      ∙ current_image (get_or bs i 0) (get_or_mem bs i 0 h)
      ∙ sym (get_or_map (image_now l) bs i 0 [] h))

  pub memory_closed : m₂ ≡ copies_stored c 0 (map (image_now l) (l.book.entry t).blocks) w.memory
  memory_closed =
      rw matches.blocks
      (copies_stored_lem c eight (image_now l) (l.book.entry t).blocks 0 w.memory u.memory (omega (arith, few, ap length matches.blocks)) current_image)

  abbrev x₂ : Core
  x₂ = closed_core x ((w.card.closes + 1) % 2 ^ 64)

  closed_core_lem : core_of (closed_card w.card c) c ≡ x₂
  unfolding closed_card core_of
  closed_core_lem = get_or-set_same w.card.cores c x₂ (fresh_core 0) (omega (arith, u.eight_cores, eight))

  other_cores : (a : ℕ) → a ≢ c → core_of (closed_card w.card c) a ≡ core_of w.card a
  unfolding closed_card core_of
  other_cores a ne = get_or-set_other w.card.cores c a x₂ (fresh_core 0) ne

  own_core : CoreUp l₂ m₂ c x₂
  unfolding taken highest_of
  own_core =
      let y = u.cores c in_range_lem in
      let r = u.well_formed.ranks c in_range_lem in
      let n = l.book.next c in
      let stamp : (w.card.closes + 1) % 18446744073709551616 ≡ suc l.closes = omega (arith, u.closes, low_closes) in
      let number : (x.next + 1) % 4294967296 ≡ suc n = omega (arith, y.next, low_next) in
      record {
        next = rw (new_next, number) refl;
        one = rw (new_next, new_numbers.1 c) (omega arith);
        used = rw (new_numbers.0 c, new_numbers.1 c, new_total (l.book.uncommitted c - l.book.oldest c)) y.used;
        runs = rw new_next (λ h. clash h (ap is_running unopened));
        idle = λ _. refl;
        closing =
            rw (new_numbers.1 c, new_next, free, new_entry)
            (λ _. record {
              live = matches.live;
              blocks = matches.blocks;
              count = matches.count;
              highest = matches.highest;
              block_room = matches.block_room;
              number_room = matches.number_room;
            });
        stored = rw (new_numbers.1 c, new_next, free, new_entry, close_stamp l c) (λ _. (refl, stamp));
        copies = rw (new_numbers.1 c, new_next, free, new_entry) (λ _. copied_image);
        none_closing = rw (new_numbers.1 c, new_next) (λ h. absurd (omega arith));
        homed = rw (new_numbers.0 c, new_numbers.1 c) (λ h. rw (new_other (oldest_name c l.book) (other_number c (omega arith))).0 (y.homed h));
        none_homed = rw (new_numbers.0 c, new_numbers.1 c) y.none_homed;
      }

  close_core : (a : ℕ) → a < l.shape.cores → CoreUp l₂ m₂ a (core_of (closed_card w.card c) a)
  close_core a h =
      elim (ℕ_discrete a c) [
        | yes e ↦ rw (e, closed_core_lem) own_core
        | no ne ↦ (let v = (new_other (next_name a l.book) (other_core (l.book.next a) (l.book.next c) ne)).0 in
            let y = u.cores a h in
            rw (other_cores a ne)
            (core_stays l u.well_formed a h l₂ (others a ne) w.memory m₂ (core_of w.card a) (core_of w.card a).running
            (rw v y.runs) (rw v y.idle)
            (λ i g. copied_other c eight (taken x.running) 0 w.memory u.memory (omega (arith, few)) (copy_block a i) (λ j p q. cores_copies a c i j g (omega (arith, few)) ne)) y))
      ]

  pub close_up : CardUp l₂ (closedOutcome c w).world
  unfolding closedOutcome closed_card close_ledger close_book tail_of holder_of image_now
  close_up =
      record {
        phase = u.phase;
        ledger = u.ledger;
        shape = u.shape;
        closes = omega (arith, u.closes, low_closes);
        memory = length_copied c 0 (taken x.running) w.memory eight (omega (arith, few)) u.memory;
        memory_bytes = bytes_copied c eight (taken x.running) 0 w.memory u.memory_bytes;
        eight_tails = u.eight_tails;
        eight_cores = length-set w.card.cores c _ ∙ u.eight_cores;
        holder_room = u.holder_room;
        well_formed = fine;
        disk = disk_stands;
        cores = close_core;
        holders = λ b h. u.holders b h ∙ ap holder_as (sym (close_holder c l.book runs b l.book.writes));
        images =
            λ b h g.
            copied_other c eight (taken x.running) 0 w.memory u.memory (omega (arith, few)) b (λ j p q. images_apart c eight b j (omega (arith, u.well_formed.range.few_blocks)))
            ∙ u.images b h g;
      }
