-- STORE keeps card and ledger in agreement: what it stores is the next block of the closed transaction's record, and it
-- stands right after what its journal holds. The journal has room for the record, so nothing live is overwritten; the
-- block is no commit of a number that is still uncommitted afterwards.
use Rattle.model.proofs.Base.{ℕ, suc, ◌+◌, ◌-◌, ◌*◌, ◌≤◌, ◌<◌, arith, dec_lt, ℕ_discrete, ◌≡◌, refl, sym, ap, ap₂, subst, ◌∙◌, ◌≢◌}
use Rattle.model.proofs.Base.{true, List, [], ◌∷◌, ◌++◌, flat_map, append_assoc, append-nil, length, take, get_or, length-append}
use Rattle.model.proofs.Base.{list_get_or_append, take_all, take-suc, get_or_at, leb, eq-eqb, ne_eqb, le-leb, lt-leb, below, Bytes}
use lib.Seq.{length-take-le}
use Rattle.model.specs.Bytes.{store, block_at}
use Rattle.model.specs.Shape.{home_block, journal_block}
use Rattle.model.specs.Card.{new_name, highest_of, record_size, tail_of, core_of, with_core}
use Rattle.model.specs.Layout.{has_head, new_tag, highest_in, flag_of}
use Rattle.model.proofs.Encoding.{commit_same}
use Rattle.model.specs.Journal.{journal_at}
use Rattle.model.specs.Command.{World}
use Rattle.model.specs.Tape.{STORE}
use Rattle.model.specs.Commit.{copy_block, copy_tags, next_stored, next_position, core_stored, stored}
use Rattle.model.specs.declared.CommitLayout.TheVariants.{Numbers}
use Rattle.model.specs.declared.Name.{Name}
use Rattle.model.specs.declared.Core.{Core}
use Rattle.model.proofs.Lists.{cases, flat_map_append, map_below, flat_map_below}
use Rattle.model.proofs.Store.{length_store, block_stored, block_other}
use Rattle.model.proofs.Journal.{journal_low, home_apart, cores_apart, journal_apart}
use Rattle.crash.specs.Book.{closed, committed, is_closed, stage_count, Entry, Book, raise, staged, store_book}
use Rattle.crash.specs.Ledger.{Ledger, with_book, record_blocks, record_tags, record_of, record_store_in, disk_after}
use Rattle.crash.proofs.Books.BookEntries.{other_number, other_core, change_at, raise_at, raise_other, records_snoc, next_name, uncommitted_name}
use Rattle.crash.proofs.Books.BookSteps.{Restages, restaged, restages_records, stored_stage, store_restages, store_more, store_last, store_holder}
use Rattle.crash.proofs.Disk.BlockBytes.{bytes_store}
use Rattle.crash.proofs.Disk.Relation.{first_waiting, IsBlock, WellFormed, contents, JournalStands, DiskStands, CoreUp, CardUp}
use Rattle.crash.proofs.Disk.ReadMaster.{shape_up, tail_read}
use Rattle.crash.proofs.Disk.RecordFormat.{length_record, record_each, record_blocks_lem, record_clear}
use Rattle.crash.proofs.Disk.ReadRecords.{records_flat, length_records, stored_closed}
use Rattle.crash.proofs.Commands.CardFrames.{SameClosed, core_set, core_other, record_same, none_stored, journal_stays, core_stays, core_up}

-- ---- STORE
held_copies : (l : Ledger) (t : Name) (c : ℕ) (m : Bytes)
    → ((i : ℕ) → i < length (l.book.entry t).blocks → block_at m (copy_block c i) ≡ get_or (l.images t) i [])
    → copy_tags c (l.book.entry t).blocks m ≡ record_tags l t
unfolding copy_tags record_tags
held_copies l t c m h =
    let bs = (l.book.entry t).blocks in
    map_below (λ (i : ℕ). new_tag (get_or bs i 0) (flag_of (block_at m (copy_block c i)))) (λ (i : ℕ). new_tag (get_or bs i 0) (flag_of (get_or (l.images t) i [])))
    (length bs) (λ i g. ap (λ (b : Bytes). new_tag (get_or bs i 0) (flag_of b)) (h i g))

module _ {l : Ledger} {w : World} (u : CardUp l w) (c : ℕ) (in_range_lem : c < l.shape.cores) (busy : l.book.uncommitted c < l.book.next c) where
  abbrev pub t : Name
  t = uncommitted_name c l.book

  abbrev pub x : Core
  x = core_of w.card c

  abbrev pub k₂ : Book
  k₂ = store_book c l.book

  abbrev pub l₂ : Ledger
  l₂ = with_book l k₂

  pub stage_now : (l.book.entry t).stage ≡ closed x.stored
  stage_now = ((u.cores c in_range_lem).stored busy).0

  pub closed_now : is_closed (l.book.entry t).stage ≡ true
  closed_now = ap is_closed stage_now

  pub within : x.stored ≤ length (l.book.entry t).blocks + 1
  within =
      let s = first_waiting (u.well_formed.ranks c in_range_lem) busy in
      let e : s.0 ≡ x.stored = ap stage_count (sym s.1 ∙ stage_now) in
      omega (arith, s.2)

  pub size : length (record_of l t) ≡ length (l.book.entry t).blocks + 2
  size = length_record u.well_formed t closed_now

  next_now : x.next - 1 ≡ l.book.uncommitted c
  next_now = omega (arith, (u.cores c in_range_lem).next, (u.cores c in_range_lem).one)

  -- what is stored next is the record's next block
  next_block : next_stored c x w.memory ≡ get_or (record_of l t) x.stored []
  unfolding next_stored
  next_block =
      let y = u.cores c in_range_lem in
      let m = y.closing busy in
      let n = (u.well_formed.frozen t closed_now).count in
      record_each l t (λ (i : ℕ) (b : Bytes). x.stored ≡ i → next_stored c x w.memory ≡ b)
      (λ e. rw (eq-eqb x.stored 0 e, m.blocks, next_now, held_copies l t c w.memory (y.copies busy)) refl)
      (λ i g e.
      let d : x.stored - 1 ≡ i = omega arith in
      rw (ne_eqb x.stored 0 (omega arith), m.blocks, le-leb x.stored (length (l.book.entry t).blocks) (omega arith), d, y.copies busy i (omega arith)) refl)
      (λ e.
      rw (ne_eqb x.stored 0 (omega arith), m.blocks, lt-leb x.stored (length (l.book.entry t).blocks) (omega arith), next_now, (y.stored busy).1) (commit_same _ _ (highest_of x.closed) (highest_in (l.book.entry t).names) m.highest))
      x.stored (omega (arith, within, size)) refl

  -- and stands after what the journal holds
  pub length_contents : length (contents l c) ≡ x.used + x.stored
  unfolding contents
  length_contents =
      let r = u.well_formed.ranks c in_range_lem in
      let o = l.book.oldest c in
      let n = l.book.uncommitted c - o in
      let g = flat_map (λ (i : ℕ). record_of l (new_name c (o + i))) (below n) in
      let whole : length g ≡ x.used =
      ap length (records_flat l c o n) ∙ length_records u.well_formed c o n (stored_closed u.well_formed u.disk c in_range_lem) ∙ sym (u.cores c in_range_lem).used in
      let part : length (take (stage_count (l.book.entry t).stage) (record_of l t)) ≡ x.stored =
      ap (λ (i : ℕ). length (take i (record_of l t))) (ap stage_count stage_now) ∙ length-take-le x.stored (record_of l t) (omega (arith, within, size)) in
      length-append g (take (stage_count (l.book.entry t).stage) (record_of l t)) ∙ ap₂ ◌+◌ whole part

  pub room : x.used + (length (l.book.entry t).blocks + 2) ≤ l.shape.journal
  room =
      let r = u.well_formed.ranks c in_range_lem in
      let o = l.book.oldest c in
      let n = l.book.uncommitted c - o in
      let e : l.book.next c - o ≡ suc n = omega (arith, r.low, (u.cores c in_range_lem).one) in
      let a : o + n ≡ l.book.uncommitted c = omega (arith, r.low) in
      let z : record_blocks l.book c o (suc n) ≤ l.shape.journal = rw e at (u.disk.journals c in_range_lem).room in
      let s : record_blocks l.book c o (suc n) ≡ record_blocks l.book c o n + (length (l.book.entry t).blocks + 2) = rw a at (records_snoc l.book c o n) in
      omega (arith, (u.cores c in_range_lem).used)

  -- ---- the ledger afterwards
  abbrev pub new : Restages l.book k₂ t (stored_stage (l.book.entry t))
  new = store_restages c l.book

  pub new_record : (v : Name) → record_of l₂ v ≡ record_of l v
  new_record v = record_same l l₂ v (new.blocks v) (new.names v) refl refl

  pub new_uncommitted : (a : ℕ) → a ≢ c → k₂.uncommitted a ≡ l.book.uncommitted a
  unfolding store_book
  new_uncommitted a ne =
      cases (leb (length (l.book.entry t).blocks + 2) (suc (stage_count (l.book.entry t).stage))) (λ h. rw (h, raise_other c l.book.uncommitted a ne)) (λ h. rw h)

  same_numbers : ((a : ℕ) → k₂.oldest a ≡ l.book.oldest a) × ((a : ℕ) → k₂.next a ≡ l.book.next a)
  unfolding store_book
  same_numbers = (λ a. refl, λ a. refl)

  pub others : (a : ℕ) → a ≢ c → SameClosed l l₂ a
  others a ne =
      record {
        shape = refl;
        oldest = same_numbers.0 a;
        uncommitted = new_uncommitted a ne;
        next = same_numbers.1 a;
        entry = λ i h. new.other (new_name a i) (other_core i (l.book.uncommitted c) ne);
        stamp = λ i h. refl;
        images = λ i h. refl;
      }

  -- the block was not the last
  module _ (more : x.stored ≤ length (l.book.entry t).blocks) where
    pub more_store : k₂ ≡ restaged t (closed (suc x.stored)) l.book.oldest l.book.uncommitted l.book.next l.book
    more_store = store_more c x.stored l.book stage_now (omega arith)

    pub more_entry : k₂.entry t ≡ staged (closed (suc x.stored)) (l.book.entry t)
    more_entry = ap (λ (k : Book). k.entry t) more_store ∙ change_at t (staged (closed (suc x.stored))) l.book.entry

    pub more_uncommitted : k₂.uncommitted c ≡ l.book.uncommitted c
    more_uncommitted = ap (λ (k : Book). k.uncommitted c) more_store

    more_contents : contents l₂ c ≡ contents l c ++ (get_or (record_of l t) x.stored [] ∷ [])
    unfolding contents
    more_contents =
        let o = l.book.oldest c in
        let n = l.book.uncommitted c - o in
        let g = flat_map (λ (i : ℕ). record_of l (new_name c (o + i))) (below n) in
        let e : flat_map (λ (i : ℕ). record_of l₂ (new_name c (o + i))) (below n) ≡ g = flat_map_below _ _ n (λ i h. new_record (new_name c (o + i))) in
        rw (same_numbers.0 c, more_uncommitted, more_entry, new_record t, e, stage_now, take-suc (record_of l t) x.stored [] (omega (arith, size)))
        (sym (append_assoc g (take x.stored (record_of l t)) (get_or (record_of l t) x.stored [] ∷ [])))

  -- the block was the last
  module _ (last : length (l.book.entry t).blocks < x.stored) where
    pub last_store : k₂ ≡ restaged t (committed 0) l.book.oldest (raise c l.book.uncommitted) l.book.next l.book
    last_store = store_last c x.stored l.book stage_now (omega (arith, within))

    pub last_entry : k₂.entry t ≡ staged (committed 0) (l.book.entry t)
    last_entry = ap (λ (k : Book). k.entry t) last_store ∙ change_at t (staged (committed 0)) l.book.entry

    pub last_uncommitted : k₂.uncommitted c ≡ suc (l.book.uncommitted c)
    last_uncommitted = ap (λ (k : Book). k.uncommitted c) last_store ∙ raise_at c l.book.uncommitted

    next_is : l.book.next c ≡ suc (l.book.uncommitted c)
    next_is = omega (arith, (u.cores c in_range_lem).one)

    last_contents : contents l₂ c ≡ contents l c ++ (get_or (record_of l t) x.stored [] ∷ [])
    unfolding contents below flat_map
    last_contents =
        let r = u.well_formed.ranks c in_range_lem in
        let o = l.book.oldest c in
        let n = l.book.uncommitted c - o in
        let f : ℕ → List Bytes = λ i. record_of l (new_name c (o + i)) in
        let v = new_name c (suc (l.book.uncommitted c)) in
        let m : suc (l.book.uncommitted c) - o ≡ suc n = omega (arith, r.low) in
        let a : o + n ≡ l.book.uncommitted c = omega (arith, r.low) in
        let e : flat_map (λ (i : ℕ). record_of l₂ (new_name c (o + i))) (below (suc n)) ≡ flat_map f (below (suc n)) = flat_map_below _ _ (suc n) (λ i h. new_record (new_name c (o + i))) in
        let z : stage_count (k₂.entry v).stage ≡ 0 =
        ap (λ (e : Entry). stage_count e.stage) (new.other v (other_number c (omega arith))) ∙ (rw next_is at (none_stored l u.well_formed c in_range_lem)) in
        let whole : flat_map f (below (suc n)) ≡ flat_map f (below n) ++ record_of l t =
        flat_map_append f (below n) (n ∷ []) ∙ ap (λ (b : List Bytes). flat_map f (below n) ++ b) (append-nil (f n) ∙ ap (λ (i : ℕ). record_of l (new_name c i)) a) in
        let all : take x.stored (record_of l t) ++ (get_or (record_of l t) x.stored [] ∷ []) ≡ record_of l t =
        sym (take-suc (record_of l t) x.stored [] (omega (arith, size, within))) ∙ take_all (suc x.stored) (record_of l t) (omega (arith, size)) in
        rw (same_numbers.0 c, last_uncommitted, m, z, e, whole, stage_now)
        (append-nil (flat_map f (below n) ++ record_of l t)
        ∙ ap (λ (b : List Bytes). flat_map f (below n) ++ b) (sym all)
        ∙ sym (append_assoc (flat_map f (below n)) (take x.stored (record_of l t)) (get_or (record_of l t) x.stored [] ∷ [])))

  by_last : {A : Type 0} → (x.stored ≤ length (l.book.entry t).blocks → A) → (length (l.book.entry t).blocks < x.stored → A) → A
  by_last f g = elim (dec_lt (length (l.book.entry t).blocks) x.stored) [ yes h ↦ g h | no h ↦ f (omega arith) ]

  pub grown : contents l₂ c ≡ contents l c ++ (get_or (record_of l t) x.stored [] ∷ [])
  grown = by_last more_contents last_contents

  new_low : l.book.uncommitted c ≤ k₂.uncommitted c
  new_low = by_last (λ h. omega (arith, more_uncommitted h)) (λ h. omega (arith, last_uncommitted h))

  running_stays : k₂.entry (next_name c l.book) ≡ l.book.entry (next_name c l.book)
  running_stays = new.other (next_name c l.book) (other_number c (omega arith))

  -- ---- the disk afterwards
  abbrev pub at : ℕ
  at = journal_block l.shape c ((tail_of w.card c).position + length (contents l c))

  abbrev pub b : Bytes
  b = get_or (record_of l t) x.stored []

  pub stored_disk : (stored c w).world.disk ≡ store w.disk at b
  unfolding stored next_position
  stored_disk =
      let p = (tail_of w.card c).position in
      let e : p + x.used + x.stored ≡ p + length (contents l c) = omega (arith, length_contents) in
      rw (shape_up u, next_block, e) refl

  -- in the ledger's words: after the records that stand from the tail
  pub stored_bytes : (stored c w).world.disk ≡ disk_after (STORE c) l w.disk
  unfolding stored next_position disk_after record_store_in
  stored_bytes = rw (shape_up u, next_block, tail_read u.well_formed u.disk c in_range_lem, (u.cores c in_range_lem).used, ap stage_count stage_now) refl

  pub is_block : IsBlock b
  is_block = record_blocks_lem u.well_formed t closed_now x.stored (omega (arith, size, within))

  pub fits : 128 * at + 128 ≤ length w.disk
  fits = omega (arith, u.disk.size, journal_low u.well_formed.range c ((tail_of w.card c).position + length (contents l c)) in_range_lem)

  pub elsewhere : (k : ℕ) → k ≢ at → block_at (store w.disk at b) k ≡ block_at w.disk k
  elsewhere = block_other w.disk at b fits is_block.size

  own_journal : JournalStands l₂ (store w.disk at b) c (tail_of w.card c)
  unfolding journal_at
  own_journal =
      let j = u.disk.journals c in_range_lem in
      let p = (tail_of w.card c).position in
      let n = length (contents l c) in
      let d₂ = store w.disk at b in
      record {
        number = rw (same_numbers.0 c) j.number;
        position = j.position;
        stands =
            rw grown
            (λ q h.
            elim (dec_lt q n) [
              | yes lt ↦ elsewhere (journal_block l.shape c (p + q))
                  (journal_apart l.shape c p q n (omega (arith, length_contents, room, within)) (omega (arith, length_contents, room, within)) (omega arith))
                  ∙ j.stands q lt ∙ sym (list_get_or_append (contents l c) (b ∷ []) [] q lt)
              | no ge ↦ (let e : n ≡ q = omega (arith, length-append (contents l c) (b ∷ [])) in
                  subst (λ (i : ℕ). block_at d₂ (journal_block l.shape c (p + i)) ≡ get_or (contents l c ++ (b ∷ [])) i []) e
                  (block_stored w.disk at b fits is_block.size ∙ sym (get_or_at (contents l c) b [] [] n refl)))
            ]);
        clear =
            λ i q h.
            elim (ℕ_discrete (journal_block l.shape c q) at) [
              | yes e ↦ (let z : block_at d₂ (journal_block l.shape c q) ≡ b = ap (block_at d₂) e ∙ block_stored w.disk at b fits is_block.size in
                  rw z (record_clear u.well_formed t closed_now x.stored i (omega (arith, size, within)) (omega (arith, new_low)) (λ g. omega (arith, size, last_uncommitted (omega (arith, size))))))
              | no ne ↦ ap (has_head 2 i) (elsewhere (journal_block l.shape c q) ne) ∙ j.clear i q (omega (arith, new_low))
            ];
        room = rw (same_numbers.0 c, same_numbers.1 c, restages_records new c (l.book.oldest c) (l.book.next c - l.book.oldest c)) j.room;
        reserved = rw (same_numbers.0 c, same_numbers.1 c, restages_records new c (l.book.oldest c) (l.book.next c - l.book.oldest c), running_stays) j.reserved;
      }

  disk_stands : DiskStands Numbers l₂ (store w.disk at b) (tail_of w.card)
  unfolding journal_at
  disk_stands =
      let d₂ = store w.disk at b in
      let p = (tail_of w.card c).position + length (contents l c) in
      record {
        size = length_store w.disk at b fits is_block.size ∙ u.disk.size;
        bytes = bytes_store w.disk at b u.disk.bytes is_block.bytes;
        master = elsewhere 0 (home_apart l.shape c p 0 (omega arith)) ∙ u.disk.master;
        numbered = λ a h g. refl;
        journals =
            λ a h.
            elim (ℕ_discrete a c) [
              | yes e ↦ subst (λ (i : ℕ). JournalStands l₂ d₂ i (tail_of w.card i)) (sym e) own_journal
              | no ne ↦ (let v = new.other (next_name a l.book) (other_core (l.book.next a) (l.book.uncommitted c) ne) in
                  journal_stays l u.well_formed a h l₂ (others a ne) w.disk d₂ (tail_of w.card a)
                  (rw v (none_stored l u.well_formed a h)) (rw v (u.disk.journals a h).reserved)
                  (λ q. elsewhere (journal_block l.shape a q) (cores_apart l.shape a q c p (omega (arith, u.well_formed.range.long)) ne)) (u.disk.journals a h))
            ];
      }

  -- ---- the card afterwards
  own_core : CoreUp l₂ w.memory c (core_stored x)
  unfolding core_stored record_size
  own_core =
      let y = u.cores c in_range_lem in
      let r = u.well_formed.ranks c in_range_lem in
      let m = y.closing busy in
      let bs = (l.book.entry t).blocks in
      let o = l.book.oldest c in
      let n = l.book.uncommitted c in
      by_last
      (λ h.
      let e = more_entry h in
      let v = more_uncommitted h in
      rw (m.blocks, le-leb x.stored (length bs) h)
      (record {
        next = rw (same_numbers.1 c) y.next;
        one = rw (same_numbers.1 c, v) y.one;
        used = rw (same_numbers.0 c, v, restages_records new c (l.book.oldest c) (n - o)) y.used;
        runs = rw (same_numbers.1 c, running_stays) y.runs;
        idle = rw (same_numbers.1 c, running_stays) y.idle;
        closing =
            rw (same_numbers.1 c, v, e)
            (λ _. record { live = m.live; blocks = m.blocks; count = m.count; highest = m.highest; block_room = m.block_room; number_room = m.number_room });
        stored = rw (same_numbers.1 c, v, e) (λ _. (ap closed (omega arith), (y.stored busy).1));
        copies = rw (same_numbers.1 c, v, e) y.copies;
        none_closing = rw (same_numbers.1 c, v) y.none_closing;
        homed = rw (same_numbers.0 c, v) (λ g. rw (new.other (new_name c o) (other_number c (omega arith))) (y.homed g));
        none_homed = rw (same_numbers.0 c, v) y.none_homed;
      }))
      (λ h.
      let e = last_entry h in
      let v = last_uncommitted h in
      let z : suc n - o ≡ suc (n - o) = omega (arith, r.low) in
      let a : o + (n - o) ≡ n = omega (arith, r.low) in
      let total : record_blocks l.book c o (suc (n - o)) ≡ record_blocks l.book c o (n - o) + (length bs + 2) = rw a at (records_snoc l.book c o (n - o)) in
      rw (m.blocks, lt-leb x.stored (length bs) h)
      (record {
        next = rw (same_numbers.1 c) y.next;
        one = rw (same_numbers.1 c, v) (omega (arith, y.one));
        used = rw (same_numbers.0 c, v, z, restages_records new c (l.book.oldest c) (suc (n - o)), total) (omega (arith, y.used, room, u.well_formed.range.short));
        runs = rw (same_numbers.1 c, running_stays) y.runs;
        idle = rw (same_numbers.1 c, running_stays) y.idle;
        closing = rw (same_numbers.1 c, v) (λ g. absurd (omega (arith, y.one)));
        stored = rw (same_numbers.1 c, v) (λ g. absurd (omega (arith, y.one)));
        copies = rw (same_numbers.1 c, v) (λ g. absurd (omega (arith, y.one)));
        none_closing = λ _. refl;
        homed =
            rw (same_numbers.0 c, v)
            (λ _.
            elim (ℕ_discrete o n) [
              | yes q ↦ rw (q, e, y.none_homed q) refl
              | no ne ↦ rw (new.other (new_name c o) (other_number c ne)) (y.homed (omega (arith, r.low)))
            ]);
        none_homed = rw (same_numbers.0 c, v) (λ g. absurd (omega (arith, r.low)));
      }))

  store_core : (a : ℕ) → a < l.shape.cores → CoreUp l₂ w.memory a (core_of (with_core w.card c (core_stored x)) a)
  store_core a h =
      elim (ℕ_discrete a c) [
        | yes e ↦ (let n : c < length w.card.cores = omega (arith, u.eight_cores, u.well_formed.range.few_cores) in
            rw (e, core_set w.card c (core_stored x) n) own_core)
        | no ne ↦ (let v = new.other (next_name a l.book) (other_core (l.book.next a) (l.book.uncommitted c) ne) in
            let y = u.cores a h in
            rw (core_other w.card c (core_stored x) a ne)
            (core_stays l u.well_formed a h l₂ (others a ne) w.memory w.memory (core_of w.card a) (core_of w.card a).running
            (rw v y.runs) (rw v y.idle) (λ i _. refl) y))
      ]

  pub store_up : WellFormed l₂ → CardUp l₂ (stored c w).world
  unfolding stored
  store_up fine =
      core_up u c (core_stored x) k₂ (stored c w).world.disk new.writes (λ b. store_holder c x.stored l.book stage_now b l.book.writes) fine
      (subst (λ (d : Bytes). DiskStands Numbers l₂ d (tail_of w.card)) (sym stored_disk) disk_stands) store_core

  -- a journal block is no home block
  pub store_homes : (b : ℕ) → b < l.shape.blocks → block_at (stored c w).world.disk (home_block b) ≡ block_at w.disk (home_block b)
  store_homes k h =
      rw stored_disk
      (elsewhere (home_block k) (home_apart l.shape c ((tail_of w.card c).position + length (contents l c)) (home_block k) (omega arith)))
