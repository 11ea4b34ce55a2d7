-- STORE keeps what holds of the disk behind the barrier. A descriptor or data block changes nothing that is behind the barrier, and is no
-- commit. A commit may follow only where no part of its record was stored since the barrier: so the record stands behind it but for the
-- commit, and no other commit of its core is since the barrier.
use Prim.Native.Nat.{ℕ, suc, ◌+◌, ◌-◌, ◌≤◌, ◌<◌}
use native.Mathlib.Omega.{arith}
use native.Mathlib.Decide.{ℕ_discrete}
use mathlib.Core.Path.{◌≡◌, refl, sym, ap, ap₂, ◌∙◌, subst, fun_ext}
use mathlib.Core.Logic.{◌⊎◌, inl, inr, ◌≢◌}
use mathlib.Core.Bool.{Bool, true, false, So, ◌||◌}
use mathlib.Core.List.{List, [], ◌++◌}
use lib.ListN.{length, take, get_or}
use lib.Dec.{eqb}
use borrow.Author.Tests.{eq-eqb, ne_eqb}
use Rattle.model.specs.Lists.{any}
use Rattle.model.specs.Bytes.{Bytes, block_at, store}
use Rattle.model.specs.Shape.{home_block, journal_block}
use Rattle.model.specs.Card.{new_name, same_name, tail_of, core_of}
use Rattle.model.specs.Layout.{has_head}
use Rattle.model.specs.Journal.{journal_at}
use Rattle.model.specs.Command.{World}
use Rattle.model.specs.declared.Name.{Name}
use Rattle.model.specs.declared.CommitLayout.TheVariants.{Numbers}
use Rattle.model.proofs.Lists.{flat_map_below}
use Rattle.model.proofs.Valid.{same_name_refl}
use Rattle.model.proofs.Store.{block_stored}
use Rattle.model.proofs.Encoding.{head_other, descriptor_head_lem, escaped_head}
use Rattle.model.proofs.Journal.{home_apart, cores_apart}
use Rattle.crash.specs.Book.{Stage, closed, committed, is_closed, is_running, is_committed, is_retired, stage_count, Entry, Book, raise, staged, kept, store_book}
use Rattle.crash.specs.Ledger.{Ledger, with_book, record_blocks, record_of}
use Rattle.crash.proofs.Books.Tests.{clash}
use Rattle.crash.proofs.Books.BookEntries.{records_same, same_or_not, same_name_false, raise_at, raise_other, change_at, change_other, change_by, other_core, uncommitted_name, next_name}
use Rattle.crash.proofs.Books.BookSteps.{restaged}
use Rattle.crash.proofs.Books.Required.{required_same}
use Rattle.crash.proofs.Books.Largest.{member_of, stage_of, requires, kept_more}
use Rattle.crash.proofs.Blocks.Invariant.{homed, homed_by}
use Rattle.crash.proofs.Disk.Relation.{WellFormed, contents, JournalStands, DiskStands, CardUp}
use Rattle.crash.proofs.Disk.RecordFormat.{record_sound}
use Rattle.crash.proofs.Commands.CardFrames.{SameClosed, record_same, contents_same, contents_stay, none_stored, journal_stays}
use Rattle.drive.specs.LostCommits.{stage_without, entry_without, book_without, ledger_without}
use Rattle.drive.proofs.Lost.Without.{Last, well_formed_without, without_running}
use Rattle.drive.proofs.Lost.Mixed.{CommittedKnown, known_formed, last_name, commit_place, Single, whole, uncommitted_part, contents_is, contents_lost}
use Rattle.crash.proofs.Commands.CardStore.{t, x, at, b, stage_now, within, closed_now, more_store, last_store, fits, is_block, elsewhere}
use Rattle.crash.proofs.Disk.RecordFormat.{record_size, record_each}
use Rattle.drive.proofs.Behind.Cached.{Cached}

-- ---- books that are alike without lost commits
without_same : (s : Name → Bool) (k k₂ : Book) → k₂.begun ≡ k.begun → k₂.opened ≡ k.opened → k₂.writes ≡ k.writes → ((t : Name) → entry_without (s t) (k₂.entry t) ≡ entry_without (s t) (k.entry t))
    → k₂.oldest ≡ k.oldest → k₂.uncommitted ≡ k.uncommitted → k₂.next ≡ k.next → book_without s k₂ ≡ book_without s k
unfolding book_without
without_same s k k₂ g a b e o u n = rw (g, a, b, o, u, n, fun_ext e) refl

-- ---- STORE
-- a block of a record other than the last is no commit of any number
part_clear : {l : Ledger} (f : WellFormed l) (t : Name) → is_closed (stage_of l.book t) ≡ true → (i n : ℕ) → i ≤ length (l.book.entry t).blocks
    → has_head 2 n (get_or (record_of l t) i []) ≡ false
part_clear {l} f t h i n low =
    let s = record_sound f t h in
    let z = (f.frozen t h).count in
    record_each l t (λ (j : ℕ) (b : Bytes). j ≤ length (l.book.entry t).blocks → has_head 2 n b ≡ false)
    (λ _. head_other 1 t.number 2 n _ (descriptor_head_lem s) (λ e _. omega arith))
    (λ j _ _. escaped_head (get_or (l.images t) j []) 2 n)
    (λ g. absurd (omega arith))
    i (omega (arith, record_size l t)) low

module _ {l : Ledger} {w : World} (u : CardUp l w) (c : ℕ) (in_range_lem : c < l.shape.cores) (busy : l.book.uncommitted c < l.book.next c)
    {since homes : Name → Bool} {parts : ℕ → Bool} {behind : Bytes} (y : Cached l (tail_of w.card) since homes parts behind w.disk) where
  abbrev pub k₂ : Book
  k₂ = store_book c l.book

  abbrev pub now₂ : Bytes
  now₂ = store w.disk (at u c in_range_lem busy) (b u c in_range_lem busy)

  -- one whose commit was stored since the barrier is not the one that is stored now
  since_other : (v : Name) → So (since v) → v ≢ t u c in_range_lem busy
  since_other v h e = clash (ap is_committed (y.last v h).0) (ap is_committed (ap (stage_of l.book) e ∙ stage_now u c in_range_lem busy))

  abbrev pub g : Name
  g = uncommitted_name c l.book

  abbrev pub stored : ℕ
  stored = (core_of w.card c).stored

  -- the book with g's stage replaced: who retired and who stored home stay
  module _ (stage : Stage) (closed_after : is_closed stage ≡ true) (not_retired : is_retired stage ≡ false) (none_home : (b : ℕ) (bs : List ℕ) → homed_by b bs stage ≡ false) (un : ℕ → ℕ) where
    abbrev after : Book
    after = restaged g stage l.book.oldest un l.book.next l.book

    entry_other : (v : Name) → v ≢ g → after.entry v ≡ l.book.entry v
    entry_other v ne = change_other g (staged stage) l.book.entry v ne

    retired_after : (v : Name) → is_retired (stage_of after v) ≡ is_retired (stage_of l.book v)
    retired_after = change_by g (staged stage) l.book.entry (λ e. is_retired e.stage) (not_retired ∙ sym (ap is_retired (stage_now u c in_range_lem busy)))

    homed_after : (j : ℕ) (v : Name) → homed (with_book l after) j v ≡ homed l j v
    homed_after j =
        change_by g (staged stage) l.book.entry (λ e. homed_by j e.blocks e.stage)
        (none_home j (l.book.entry g).blocks ∙ sym (ap (homed_by j (l.book.entry g).blocks) (stage_now u c in_range_lem busy)))

    was_safe : (v : Name) → (So (is_retired (stage_of after v)) ⊎ ((j : ℕ) × So (homed (with_book l after) j v))) → So (member_of (kept (book_without since l.book)) v)
    was_safe v (inl h) = y.safe v (inl (sym (retired_after v) ∙ h))
    was_safe v (inr (j, h)) = y.safe v (inr (j, sym (homed_after j v) ∙ h))

    record_after : (v : Name) → record_of (with_book l after) v ≡ record_of l v
    record_after v =
        record_same l (with_book l after) v (change_by g (staged stage) l.book.entry (λ e. e.blocks) refl v) (change_by g (staged stage) l.book.entry (λ e. e.names) refl v) refl refl

    -- another core's journal
    contents_other : (a : ℕ) → a ≢ c → un a ≡ l.book.uncommitted a → contents (with_book l after) a ≡ contents l a
    contents_other a ne e =
        contents_same l (with_book l after) a refl e (λ i h. record_after (new_name a i))
        (rw (entry_other (uncommitted_name a l.book) (other_core (l.book.uncommitted a) (l.book.uncommitted c) ne), record_after (uncommitted_name a l.book)) refl)

  home_stays : (v : ℕ) → v < l.shape.blocks → block_at now₂ (home_block v) ≡ block_at w.disk (home_block v)
  home_stays v h = elsewhere u c in_range_lem busy (home_block v) (home_apart l.shape c _ (home_block v) (omega arith))

  -- ---- a descriptor or a data block
  module _ (more : stored ≤ length (l.book.entry g).blocks) where
    abbrev next_stage : Stage
    next_stage = closed (suc stored)

    abbrev k₃ : Book
    k₃ = after next_stage refl refl (λ b bs. refl) l.book.uncommitted

    without_part : book_without since k₃ ≡ book_without since l.book
    without_part =
        without_same since l.book k₃ refl refl refl
        (λ v. same_or_not v g
        (λ e. rw (e, change_at g (staged next_stage) l.book.entry, stage_now u c in_range_lem busy) refl)
        (λ ne. ap (entry_without (since v)) (change_other g (staged next_stage) l.book.entry v ne)))
        refl refl refl

    without_part_ledger : ledger_without since (with_book l k₃) ≡ ledger_without since l
    without_part_ledger = ap (with_book l) without_part

    -- what is behind the barrier stays
    pub part_behind : ledger_without since (with_book l k₂) ≡ ledger_without since l
    part_behind = ap (λ (k : Book). ledger_without since (with_book l k)) (more_store u c in_range_lem busy more) ∙ without_part_ledger

    single_part : Single (with_book l k₃) (tail_of w.card) since now₂
    unfolding journal_at
    single_part a q h p e =
        let place : commit_place (with_book l k₃) (tail_of w.card) since a ≡ commit_place l (tail_of w.card) since a
        = ap (λ (m : Ledger). journal_block l.shape a ((tail_of w.card a).position + length (contents m a))) without_part_ledger in
        elim (ℕ_discrete (journal_block l.shape a q) (at u c in_range_lem busy)) [
          | yes i ↦ clash e
              (ap (λ (j : ℕ). has_head 2 (l.book.uncommitted a - 1) (block_at now₂ j)) i
              ∙ ap (has_head 2 (l.book.uncommitted a - 1)) (block_stored w.disk (at u c in_range_lem busy) (b u c in_range_lem busy) (fits u c in_range_lem busy) (is_block u c in_range_lem busy).size)
              ∙ part_clear u.well_formed g (closed_now u c in_range_lem busy) stored (l.book.uncommitted a - 1) more)
          | no ne ↦ (unfold journal_at in y.single a q h p (sym (ap (has_head 2 (l.book.uncommitted a - 1)) (elsewhere u c in_range_lem busy (journal_block l.shape a q) ne)) ∙ e)) ∙ sym place
        ]

    pub cached_part : Cached (with_book l k₂) (tail_of w.card) since homes (λ (a : ℕ). eqb a c || parts a) behind now₂
    cached_part =
        subst (λ (k : Book). Cached (with_book l k) (tail_of w.card) since homes (λ (a : ℕ). eqb a c || parts a) behind now₂) (sym (more_store u c in_range_lem busy more))
        (record {
          last = λ v h. (ap (λ (e : Entry). e.stage) (change_other g (staged next_stage) l.book.entry v (since_other v h)) ∙ (y.last v h).0, (y.last v h).1, (y.last v h).2);
          safe = λ v h. rw without_part (was_safe next_stage refl refl (λ b bs. refl) l.book.uncommitted v h);
          stands = subst (λ (m : Ledger). DiskStands Numbers m behind (tail_of w.card)) (sym without_part_ledger) y.stands;
          single = single_part;
          homing = λ v h. (retired_after next_stage refl refl (λ b bs. refl) l.book.uncommitted v ∙ (y.homing v h).0, rw without_part (y.homing v h).1);
          home_same = λ v h n. y.home_same v h (λ x p. sym (ap (any (eqb v)) (change_by g (staged next_stage) l.book.entry (λ e. e.blocks) refl x)) ∙ n x p) ∙ sym (home_stays v h);
          stored_behind =
              λ a h p n.
              elim (ℕ_discrete a c) [
                | yes e ↦ clash (rw (eq-eqb a c e) refl) p
                | no ne ↦ (let o = contents_other next_stage refl refl (λ b bs. refl) l.book.uncommitted a ne refl in
                    let s = entry_other next_stage refl refl (λ b bs. refl) l.book.uncommitted (uncommitted_name a l.book) (other_core (l.book.uncommitted a) (l.book.uncommitted c) ne) in
                    let z = y.stored_behind a h (rw (ne_eqb a c ne) at p) (subst (λ (e : Entry). 0 < stage_count e.stage) s n) in
                    (z.0, rw o z.1))
              ];
        })

  -- ---- the commit
  module _ (all_stored : length (l.book.entry g).blocks < stored) (no_part : parts c ≡ false) (fine₂ : WellFormed (with_book l k₂)) where
    abbrev pub since₂ : Name → Bool
    since₂ v = same_name v g || since v

    abbrev un₂ : ℕ → ℕ
    un₂ = raise c l.book.uncommitted

    abbrev k₄ : Book
    k₄ = after (committed 0) refl refl (λ j bs. unfold any in refl) un₂

    is_last : k₂ ≡ k₄
    is_last = last_store u c in_range_lem busy all_stored

    fine₄ : WellFormed (with_book l k₄)
    fine₄ = subst (λ (k : Book). WellFormed (with_book l k)) is_last fine₂

    -- what is stored of g stands behind the barrier, and no commit of its core is since then
    g_whole : (since (last_name l c) ≡ false) × ((q : ℕ) → q < length (contents l c) → journal_at l.shape behind c ((tail_of w.card c).position + q) ≡ get_or (contents l c) q [])
    g_whole = y.stored_behind c in_range_lem no_part (omega (arith, ap stage_count (stage_now u c in_range_lem busy)))

    since_g : since₂ g ≡ true
    since_g = rw (same_name_refl g) refl

    since_old : (v : Name) → v ≢ g → since₂ v ≡ since v
    since_old v ne = rw (same_name_false v g ne) refl

    -- the others since the barrier are of other cores
    other_cores : (v : Name) → So (since v) → v.core ≢ c
    other_cores v h e =
        let z = y.last v h in
        let same : v ≡ last_name l c = (let n : v.number ≡ l.book.uncommitted c - 1 = (let q : l.book.uncommitted v.core ≡ l.book.uncommitted c = ap l.book.uncommitted e in omega (arith, z.1)) in ap₂ new_name e n) in
        clash (subst (λ (n : Name). So (since n)) same h) g_whole.0

    last₂ : Last (with_book l k₄) since₂
    last₂ v h =
        same_or_not v g
        (λ e. (ap (stage_of k₄) e ∙ ap (λ (x : Entry). x.stage) (change_at g (staged (committed 0)) l.book.entry), rw e (sym (raise_at c l.book.uncommitted)), rw e in_range_lem))
        (λ ne.
        let old : So (since v) = sym (since_old v ne) ∙ h in
        let z = y.last v old in
        (ap (λ (e : Entry). e.stage) (change_other g (staged (committed 0)) l.book.entry v ne) ∙ z.0, z.1 ∙ sym (raise_other c l.book.uncommitted v.core (other_cores v old)), z.2))

    last_is : last_name (with_book l k₄) c ≡ g
    last_is = ap (new_name c) (let e = raise_at c l.book.uncommitted in omega (arith, e))

    -- behind the barrier core c's journal holds what it held with g's parts
    contents₂ : contents (ledger_without since₂ (with_book l k₄)) c ≡ contents l c
    contents₂ =
        let stage : stage_of k₄ (last_name (with_book l k₄) c) ≡ committed 0 = (last₂ (last_name (with_book l k₄) c) (rw last_is since_g)).0 in
        contents_lost fine₄ c in_range_lem since₂ stage (rw last_is since_g)
        ∙ parts_same
        ∙ sym (contents_is l c)
      where
        parts_same : whole (with_book l k₄) c (un₂ c - 1 - l.book.oldest c) ++ uncommitted_part (with_book l k₄) c
            ≡ whole l c (l.book.uncommitted c - l.book.oldest c) ++ take (stage_count (stage_of l.book g)) (record_of l g)
        parts_same =
            let rec = record_after (committed 0) refl refl (λ j bs. unfold any in refl) un₂ in
            let e : un₂ c - 1 ≡ l.book.uncommitted c = (let q = raise_at c l.book.uncommitted in omega (arith, q)) in
            let n : length (k₄.entry g).blocks + 1 ≡ stage_count (stage_of l.book g)
            = ap (λ (bs : List ℕ). length bs + 1) (change_by g (staged (committed 0)) l.book.entry (λ e. e.blocks) refl g) ∙ (let q = ap stage_count (stage_now u c in_range_lem busy) in omega (arith, q, within u c in_range_lem busy)) in
            rw (e, n, rec g)
            (ap (λ (xs : List Bytes). xs ++ take (stage_count (stage_of l.book g)) (record_of l g))
            (flat_map_below _ _ (l.book.uncommitted c - l.book.oldest c) (λ i h. rec (new_name c (l.book.oldest c + i)))))

    -- ---- the disk behind the barrier
    abbrev l₄ : Ledger
    l₄ = with_book l k₄

    without_other : (v : Name) → v ≢ g → entry_without (since₂ v) (k₄.entry v) ≡ entry_without (since v) (l.book.entry v)
    without_other v ne = ap (λ (x : Bool). entry_without x (k₄.entry v)) (since_old v ne) ∙ ap (entry_without (since v)) (change_other g (staged (committed 0)) l.book.entry v ne)

    without_blocks : (v : Name) → ((book_without since₂ k₄).entry v).blocks ≡ (l.book.entry v).blocks
    unfolding book_without
    without_blocks v = change_by g (staged (committed 0)) l.book.entry (λ e. e.blocks) refl v

    without_total : (a n : ℕ) → record_blocks (book_without since₂ k₄) a (l.book.oldest a) n ≡ record_blocks l.book a (l.book.oldest a) n
    without_total a n = records_same l.book (book_without since₂ k₄) a (l.book.oldest a) n (λ i p q. ap length (without_blocks (new_name a i)))

    same_closed : (a : ℕ) → a ≢ c → SameClosed (ledger_without since l) (ledger_without since₂ l₄) a
    unfolding book_without
    same_closed a ne =
        record {
          shape = refl;
          oldest = refl;
          uncommitted =
              (let e = raise_other c l.book.uncommitted a ne in
              rw (e, since_old (new_name a (l.book.uncommitted a - 1)) (other_core _ _ ne)) refl);
          next = refl;
          entry = λ i h. without_other (new_name a i) (other_core _ _ ne);
          stamp = λ i h. refl;
          images = λ i h. refl;
        }

    next_other : (a : ℕ) → next_name a l.book ≢ g
    next_other a e =
        let q : l.book.next a ≡ l.book.next c = ap (λ (v : Name). l.book.next v.core) e in
        let p : l.book.next a ≡ l.book.uncommitted c = ap (λ (v : Name). v.number) e in
        omega arith

    next_entry : (a : ℕ) → (book_without since₂ k₄).entry (next_name a l.book) ≡ (book_without since l.book).entry (next_name a l.book)
    unfolding book_without
    next_entry a = without_other (next_name a l.book) (next_other a)

    formed₀ : WellFormed (ledger_without since l)
    formed₀ = well_formed_without u.well_formed since y.last

    own_clear : (i q : ℕ) → (book_without since₂ k₄).uncommitted c ≤ i → has_head 2 i (journal_at l.shape behind c q) ≡ false
    unfolding book_without
    own_clear i q h =
        let e : un₂ c - 1 ≡ l.book.uncommitted c = (let q = raise_at c l.book.uncommitted in omega (arith, q)) in
        let s : since₂ (new_name c (un₂ c - 1)) ≡ true = rw last_is since_g in
        let low : l.book.uncommitted c ≤ i = (let r : un₂ c - 1 ≤ i = rw s at h in omega arith) in
        unfold book_without in (y.stands.journals c in_range_lem).clear i q (rw g_whole.0 low)

    without_runs : (a : ℕ) → is_running ((book_without since₂ k₄).entry (next_name a l.book)).stage ≡ is_running (stage_of l.book (next_name a l.book))
    unfolding book_without
    without_runs a =
        ap (λ (e : Entry). is_running e.stage) (next_entry a)
        ∙ without_running (since (next_name a l.book)) (length (l.book.entry (next_name a l.book)).blocks) (stage_of l.book (next_name a l.book))

    own_reserved : is_running ((book_without since₂ k₄).entry (next_name c l.book)).stage ≡ true
        → record_blocks (book_without since₂ k₄) c (l.book.oldest c) (l.book.next c - l.book.oldest c) + (length ((book_without since₂ k₄).entry (next_name c l.book)).blocks + 2) ≤ l.shape.journal
    own_reserved h =
        rw (without_total c (l.book.next c - l.book.oldest c), without_blocks (next_name c l.book))
        ((u.disk.journals c in_range_lem).reserved (sym (without_runs c) ∙ h))

    own_journal : JournalStands (ledger_without since₂ l₄) behind c (tail_of w.card c)
    unfolding book_without
    own_journal =
        let z = u.disk.journals c in_range_lem in
        record {
          number = z.number;
          position = z.position;
          stands = rw contents₂ g_whole.1;
          clear = own_clear;
          room = rw (without_total c (l.book.next c - l.book.oldest c)) z.room;
          reserved = own_reserved;
        }

    other_journal : (a : ℕ) → a < l.shape.cores → a ≢ c → JournalStands (ledger_without since₂ l₄) behind a (tail_of w.card a)
    unfolding book_without
    other_journal a h ne =
        let e : (book_without since₂ k₄).entry (next_name a l.book) ≡ (book_without since l.book).entry (next_name a l.book) = next_entry a in
        journal_stays (ledger_without since l) formed₀ a h (ledger_without since₂ l₄) (same_closed a ne) behind behind (tail_of w.card a)
        (ap (λ (x : Entry). stage_count x.stage) e ∙ none_stored (ledger_without since l) formed₀ a h) (subst (λ (x : Entry). is_running x.stage ≡ true → record_blocks (book_without since l.book) a (l.book.oldest a) (l.book.next a - l.book.oldest a) + (length x.blocks + 2) ≤ l.shape.journal)
        (sym e) (y.stands.journals a h).reserved)
        (λ q. refl) (y.stands.journals a h)

    stands₂ : DiskStands Numbers (ledger_without since₂ l₄) behind (tail_of w.card)
    stands₂ =
        record {
          size = y.stands.size;
          bytes = y.stands.bytes;
          master = y.stands.master;
          numbered = λ a h e. refl;
          journals =
              λ a h.
              elim (ℕ_discrete a c) [
                | yes e ↦ subst (λ (i : ℕ). JournalStands (ledger_without since₂ l₄) behind i (tail_of w.card i)) (sym e) own_journal
                | no ne ↦ other_journal a h ne
              ];
        }

    -- ---- the commit stands where it belongs, and nowhere else
    place₂ : (a : ℕ) → a < l.shape.cores → a ≢ c → contents (ledger_without since₂ l₄) a ≡ contents (ledger_without since l) a
    unfolding book_without
    place₂ a h ne =
        let e : (book_without since₂ k₄).entry (next_name a l.book) ≡ (book_without since l.book).entry (next_name a l.book) = next_entry a in
        contents_stay (ledger_without since l) formed₀ a h (ledger_without since₂ l₄) (same_closed a ne) (ap (λ (x : Entry). stage_count x.stage) e ∙ none_stored (ledger_without since l) formed₀ a h)

    -- no commit of its core was since the barrier; what was stored of it is now all behind the barrier
    pub commit_first : since (last_name l c) ≡ false
    commit_first = g_whole.0

    pub commit_behind : contents (ledger_without since₂ (with_book l k₂)) c ≡ contents l c
    commit_behind = ap (λ (k : Book). contents (ledger_without since₂ (with_book l k)) c) is_last ∙ contents₂

    pub commit_behind_other : (a : ℕ) → a < l.shape.cores → a ≢ c → contents (ledger_without since₂ (with_book l k₂)) a ≡ contents (ledger_without since l) a
    commit_behind_other a h ne = ap (λ (k : Book). contents (ledger_without since₂ (with_book l k)) a) is_last ∙ place₂ a h ne

    single₂ : Single l₄ (tail_of w.card) since₂ now₂
    unfolding journal_at
    single₂ a q h p e =
        let s = l.shape in
        let j = journal_block s a q in
        let n = un₂ a - 1 in
        elim (ℕ_discrete a c) [
          | yes i ↦ elim (ℕ_discrete j (at u c in_range_lem busy)) [
            | yes here ↦ here ∙ sym (own_place a i)
            | no ne ↦ clash e
                (ap (has_head 2 n) (elsewhere u c in_range_lem busy j ne)
                ∙ (unfold journal_at in (u.disk.journals a h).clear n q (let r = raise_at c l.book.uncommitted in let r₂ : un₂ a ≡ un₂ c = ap un₂ i in let r₃ : l.book.uncommitted a ≡ l.book.uncommitted c = ap l.book.uncommitted i in omega (arith, r, r₂, r₃))))
          ]
          | no ne ↦ (let r = raise_other c l.book.uncommitted a ne in
              let m : last_name l₄ a ≡ last_name l a = ap (λ (i : ℕ). new_name a (i - 1)) r in
              let p₂ : So (since (last_name l a)) = sym (since_old (last_name l a) (other_core _ _ ne)) ∙ sym (ap since₂ m) ∙ p in
              let away : j ≢ at u c in_range_lem busy = cores_apart s a q c _ (omega (arith, u.well_formed.range.long)) ne in
              let e₂ : has_head 2 (l.book.uncommitted a - 1) (block_at w.disk j) ≡ true = sym (ap (has_head 2 (l.book.uncommitted a - 1)) (elsewhere u c in_range_lem busy j away)) ∙ ap (λ (i : ℕ). has_head 2 (i - 1) (block_at now₂ j)) (sym r) ∙ e in
              (unfold journal_at in y.single a q h p₂ e₂) ∙ ap (λ (xs : List Bytes). journal_block s a ((tail_of w.card a).position + length xs)) (sym (place₂ a h ne)))
        ]
      where
        own_place : (a : ℕ) → a ≡ c → commit_place l₄ (tail_of w.card) since₂ a ≡ at u c in_range_lem busy
        own_place a i = ap (commit_place l₄ (tail_of w.card) since₂) i ∙ ap (λ (xs : List Bytes). journal_block l.shape c ((tail_of w.card c).position + length xs)) contents₂

    -- ---- as much is kept without what was stored since the barrier
    fine₅ : WellFormed (ledger_without since₂ l₄)
    fine₅ = well_formed_without fine₄ since₂ last₂

    known₀ : CommittedKnown (book_without since l.book)
    known₀ = known_formed formed₀

    known₅ : CommittedKnown (book_without since₂ k₄)
    known₅ = known_formed fine₅

    more_committed : (v : Name) → So (is_committed (stage_of (book_without since l.book) v)) → So (is_committed (stage_of (book_without since₂ k₄) v))
    unfolding book_without
    more_committed v h =
        same_or_not v g
        (λ e. clash h (ap (λ (n : Name). is_committed (stage_without (since n) (length (l.book.entry n).blocks) (stage_of l.book n))) e
        ∙ ap (λ (x : Stage). is_committed (stage_without (since g) (length (l.book.entry g).blocks) x)) (stage_now u c in_range_lem busy)))
        (λ ne. ap (λ (e : Entry). is_committed e.stage) (without_other v ne) ∙ h)

    without_begun : (book_without since₂ k₄).begun ≡ (book_without since l.book).begun
    unfolding book_without
    without_begun = refl

    without_names : (v : Name) → ((book_without since₂ k₄).entry v).names ≡ ((book_without since l.book).entry v).names
    unfolding book_without
    without_names v = change_by g (staged (committed 0)) l.book.entry (λ e. e.names) refl v

    same_required : (v x : Name) → So (is_committed (stage_of (book_without since l.book) v)) → So (requires (book_without since₂ k₄) v x) → So (requires (book_without since l.book) v x)
    same_required v x h n = subst (λ (ns : List Name). So (member_of ns x)) (required_same (book_without since l.book) (book_without since₂ k₄) v without_begun (without_names v)) n

    safe₂ : (v : Name) → (So (is_retired (stage_of k₄ v)) ⊎ ((j : ℕ) × So (homed l₄ j v))) → So (member_of (kept (book_without since₂ k₄)) v)
    safe₂ v h =
        kept_more (book_without since l.book) (book_without since₂ k₄) known₀ known₅ more_committed same_required v
        (was_safe (committed 0) refl refl (λ j bs. unfold any in refl) un₂ v h)

    held₂ : (j : ℕ) → j < l.shape.blocks → ((v : Name) → So (homes v) → any (eqb j) (k₄.entry v).blocks ≡ false) → block_at behind (home_block j) ≡ block_at now₂ (home_block j)
    held₂ j h n = y.home_same j h (λ x p. sym (ap (any (eqb j)) (change_by g (staged (committed 0)) l.book.entry (λ e. e.blocks) refl x)) ∙ n x p) ∙ sym (home_stays j h)

    homing₂ : (v : Name) → So (homes v) → (is_retired (stage_of k₄ v) ≡ false) × So (member_of (kept (book_without since₂ k₄)) v)
    homing₂ v h = (
      retired_after (committed 0) refl refl (λ j bs. unfold any in refl) un₂ v ∙ (y.homing v h).0,
      kept_more (book_without since l.book) (book_without since₂ k₄) known₀ known₅ more_committed same_required v (y.homing v h).1,
    )

    pub cached_commit : Cached (with_book l k₂) (tail_of w.card) since₂ homes parts behind now₂
    cached_commit =
        subst (λ (k : Book). Cached (with_book l k) (tail_of w.card) since₂ homes parts behind now₂) (sym is_last)
        (record {
          last = last₂;
          safe = safe₂;
          stands = stands₂;
          single = single₂;
          homing = homing₂;
          home_same = held₂;
          stored_behind =
              λ a h p n.
              elim (ℕ_discrete a c) [
                | yes e ↦ absurd (let z = none_stored l₄ fine₄ c in_range_lem in none_counted a e n)
                | no ne ↦ (let r = raise_other c l.book.uncommitted a ne in
                    let o = contents_other (committed 0) refl refl (λ j bs. unfold any in refl) un₂ a ne r in
                    let m : last_name l₄ a ≡ last_name l a = ap (λ (i : ℕ). new_name a (i - 1)) r in
                    let z = y.stored_behind a h p (other_counted a ne r n) in
                    (ap since₂ m ∙ since_old (last_name l a) (other_core _ _ ne) ∙ z.0, rw o z.1))
              ];
        })
      where
        next_is : l.book.next c ≡ un₂ c
        next_is = let r = raise_at c l.book.uncommitted in omega (arith, r, (u.cores c in_range_lem).one)

        -- after the commit nothing of the next one is stored
        none_counted : (a : ℕ) → a ≡ c → 0 < stage_count (stage_of k₄ (uncommitted_name a k₄)) → ⊥
        none_counted a e n =
            let z : stage_count (stage_of k₄ (next_name c l.book)) ≡ 0 = none_stored l₄ fine₄ c in_range_lem in
            let q : uncommitted_name a k₄ ≡ next_name c l.book = ap (λ (i : ℕ). new_name i (un₂ i)) e ∙ ap (new_name c) (sym next_is) in
            let r : stage_count (stage_of k₄ (uncommitted_name a k₄)) ≡ 0 = ap (λ (v : Name). stage_count (stage_of k₄ v)) q ∙ z in
            omega arith

        other_counted : (a : ℕ) → a ≢ c → un₂ a ≡ l.book.uncommitted a → 0 < stage_count (stage_of k₄ (uncommitted_name a k₄)) → 0 < stage_count (stage_of l.book (uncommitted_name a l.book))
        other_counted a ne r n =
            subst (λ (e : Entry). 0 < stage_count e.stage) (change_other g (staged (committed 0)) l.book.entry (uncommitted_name a l.book) (other_core _ _ ne))
            (subst (λ (i : ℕ). 0 < stage_count (stage_of k₄ (new_name a i))) r n)
