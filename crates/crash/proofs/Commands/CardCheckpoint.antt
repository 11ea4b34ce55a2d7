-- CHECKPOINT and RETIRE keep card and ledger in agreement: the card's oldest record is that of the ledger's oldest committed one.
-- CHECKPOINT puts its next image into its home block and touches nothing else; RETIRE, by its master store, moves the tail past its
-- record, so the journal holds the same without that record, and its blocks have no holder any more.
use Rattle.model.proofs.Base.{ℕ, suc, ◌+◌, ◌-◌, ◌≤◌, ◌<◌, arith, ℕ_discrete, ◌≡◌, refl, sym, ap, subst, ◌∙◌, ◌≢◌}
use Rattle.model.proofs.Base.{true, [], length, get_or, length-set, length-map}
use Rattle.model.proofs.Base.{list_get_or_map, get_or-set_same, get_or-set_other, eq-eqb, ne_eqb}
use Rattle.model.proofs.Base.{Bytes}
use Rattle.model.specs.Bytes.{store, block_at}
use Rattle.model.specs.Shape.{home_block}
use Rattle.model.specs.Card.{new_name, new_tail, no_holder, fresh_core, shape_of, tail_of, core_of, holder_of, with_core, is_held}
use Rattle.model.specs.Layout.{master_block}
use Rattle.model.specs.Journal.{journal_at}
use Rattle.model.specs.Command.{World, Outcome, storing}
use Rattle.model.specs.Checkpoint.{homed_core, stored_home, released, retired_core, retired_card, stored_master, checkpointed, retired_oldest, images_left}
use Rattle.model.specs.declared.Name.{Name}
use Rattle.model.specs.declared.Tail.{Tail}
use Rattle.model.specs.declared.CommitLayout.TheVariants.{Numbers}
use Rattle.model.specs.declared.Core.{Core}
use Rattle.model.specs.declared.Card.{Card}
use Rattle.model.specs.declared.Committed.{Committed}
use Rattle.model.proofs.Encoding.{master_same}
use Rattle.model.proofs.Lists.{get_or_mem}
use Rattle.crash.specs.Book.{committed, retired, is_closed, is_retired, stage_count, Entry, raise, checkpoint_book, retire_book}
use Rattle.crash.specs.Ledger.{Ledger, with_book, image_now, tails_past, home_store_in, master_store_in, disk_after, home_left}
use Rattle.crash.proofs.Books.BookEntries.{other_number, other_core, raise_at, raise_other, next_name, oldest_name, uncommitted_name}
use Rattle.crash.proofs.Books.BookSteps.{restages_holder, checkpoint_home, retire_restages}
use Rattle.crash.proofs.Disk.Relation.{IsBlock, WellFormed, JournalStands, DiskStands, CoreUp, CardUp}
use Rattle.crash.proofs.Disk.LedgerStages.{closed_present}
use Rattle.crash.proofs.Disk.ReadMaster.{shape_up, master_block_lem, tail_read}
use Rattle.crash.proofs.Disk.RecordFormat.{read_record}
use Rattle.crash.proofs.Disk.ReadRecords.{ReadAsLedger}
use Rattle.crash.proofs.Disk.ReadCheckpoint.{oldest_of, oldest_is}
use Rattle.crash.proofs.Commands.CardFrames.{core_set, core_other, low_stored, low_other, low_journal, low_size, low_bytes, home_stands, core_up}
use Rattle.crash.proofs.Disk.LedgerCheckpoint.{advanced, one_changed, core_advanced, journal_kept, released_from, released_holder, still_held}
use Rattle.crash.proofs.Disk.JournalPast.{first_size, past_first, past_tail, not_closing, not_current, first_closed, records_past, journal_past}
use Rattle.model.specs.Tape.{CHECKPOINT, RETIRE}

-- ---- CHECKPOINT and RETIRE
module _ {l : Ledger} {w : World} (u : CardUp l w) (c : ℕ) (in_range_lem : c < l.shape.cores) (some_committed : l.book.oldest c < l.book.uncommitted c) where
  abbrev t : Name
  t = oldest_name c l.book

  abbrev x : Core
  x = core_of w.card c

  abbrev pub e : Committed
  e = read_record l t (tail_of w.card c).position

  pub stage_now : (l.book.entry t).stage ≡ committed x.homed
  stage_now = (u.cores c in_range_lem).homed some_committed

  closed_now : is_closed (l.book.entry t).stage ≡ true
  closed_now = first_closed u.well_formed c in_range_lem some_committed

  within : x.homed ≤ length (l.book.entry t).blocks
  within =
      let s = (u.well_formed.ranks c in_range_lem).first some_committed in
      let q : s.0 ≡ x.homed = ap stage_count (sym s.1 ∙ stage_now) in
      omega (arith, s.2)

  -- it is neither the one being stored nor the running one, of any core
  other_closing : (a : ℕ) → uncommitted_name a l.book ≢ t
  other_closing = not_closing u.well_formed c in_range_lem some_committed

  other_current : (a : ℕ) → next_name a l.book ≢ t
  other_current = not_current u.well_formed c in_range_lem some_committed

  core_room : c < length w.card.cores
  core_room = omega (arith, u.eight_cores, u.well_formed.range.few_cores)

  -- ---- a home store
  module _ (more : x.homed < length (l.book.entry t).blocks) where
    abbrev b : ℕ
    b = get_or (l.book.entry t).blocks x.homed 0

    abbrev pub image : Bytes
    image = get_or (l.images t) x.homed []

    pub home_done : checkpointed c w ≡ storing w (with_core w.card c (homed_core x)) (home_block b) image
    unfolding checkpointed stored_home
    home_done =
        let r : ReadAsLedger Numbers l w.disk c e = rw (oldest_of u c in_range_lem some_committed) at (oldest_is u c in_range_lem some_committed) in
        rw (oldest_of u c in_range_lem some_committed, shape_up u, r.blocks, r.images x.homed more) refl

    home_low : b < l.shape.blocks
    home_low = (u.well_formed.limits t (closed_present _ closed_now)).blocks b (get_or_mem (l.book.entry t).blocks x.homed 0 more)

    pub image_block : IsBlock image
    image_block = let z = u.well_formed.frozen t closed_now in z.images x.homed (omega (arith, z.count))

    abbrev l₂ : Ledger
    l₂ = advanced l t (committed (suc x.homed)) l.book.oldest

    home_disk : DiskStands Numbers l₂ (store w.disk (home_block b) image) (tail_of w.card)
    home_disk =
        let d = store w.disk (home_block b) image in
        let z = home_stands u.well_formed u.disk b home_low image image_block in
        record {
          size = z.size;
          bytes = z.bytes;
          master = z.master;
          numbered = λ a h g. refl;
          journals =
              λ a h.
              journal_kept l t (committed (suc x.homed)) l.book.oldest a (other_closing a) (other_current a) d d (tail_of w.card a) (λ q. refl) refl (z.journals a h);
        }

    home_core : (a : ℕ) → a < l.shape.cores → CoreUp l₂ w.memory a (core_of (with_core w.card c (homed_core x)) a)
    home_core a h =
        let g = committed (suc x.homed) in
        let changed = one_changed l t g l.book.oldest in
        let y = u.cores a h in
        elim (ℕ_discrete a c) [
          | yes q ↦ (let y₂ = u.cores c in_range_lem in
              let z : x.homed + 1 ≡ suc x.homed = omega arith in
              rw (q, core_set w.card c (homed_core x) core_room)
              (core_advanced l t g l.book.oldest c (other_closing c) (other_current c) w.memory x x.used (x.homed + 1) y₂.used
              (λ _. rw z changed.stage) (λ n. absurd (omega arith)) y₂))
          | no ne ↦ rw (core_other w.card c (homed_core x) a ne)
              (core_advanced l t g l.book.oldest a (other_closing a) (other_current a) w.memory (core_of w.card a) (core_of w.card a).used (core_of w.card a).homed y.used
              (λ n. ap (λ (v : Entry). v.stage) (changed.other (oldest_name a l.book) (other_core (l.book.oldest a) (l.book.oldest c) ne)) ∙ y.homed n) y.none_homed y)
        ]

    home_up : WellFormed l₂ → CardUp l₂ (storing w (with_core w.card c (homed_core x)) (home_block b) image).world
    home_up fine =
        let holder = restages_holder (one_changed l t (committed (suc x.homed)) l.book.oldest) (sym (ap is_retired stage_now)) in
        core_up u c (homed_core x) l₂.book (store w.disk (home_block b) image) refl (λ b. holder b l.book.writes) fine home_disk home_core

  -- ---- the master store
  module _ (all_home : x.homed ≡ length (l.book.entry t).blocks) where
    abbrev tail : Tail
    tail = past_tail c l (tail_of w.card c)

    abbrev pub card₂ : Card
    card₂ = retired_card c e w.card

    abbrev o₂ : ℕ → ℕ
    o₂ = raise c l.book.oldest

    abbrev l₃ : Ledger
    l₃ = past_first c l

    retired_shape : shape_of card₂ ≡ l.shape
    unfolding retired_card shape_of
    retired_shape = unfold shape_of in shape_up u

    pub master_done : retired_oldest c w ≡ storing w card₂ 0 (master_block Numbers l.shape (tail_of card₂))
    unfolding retired_oldest stored_master
    master_done = rw (oldest_of u c in_range_lem some_committed, retired_shape) refl

    tail_room : c < length w.card.tails
    tail_room = omega (arith, u.eight_tails, u.well_formed.range.few_cores)

    pub own_tail : tail_of card₂ c ≡ tail
    unfolding tail_of retired_card
    own_tail = get_or-set_same w.card.tails c _ (new_tail 0 0) tail_room ∙ rw (shape_up u) refl

    pub other_tail : (a : ℕ) → a ≢ c → tail_of card₂ a ≡ tail_of w.card a
    unfolding tail_of retired_card
    other_tail a ne = get_or-set_other w.card.tails c a _ (new_tail 0 0) ne

    own_core : core_of card₂ c ≡ retired_core x e
    unfolding core_of retired_card
    own_core = get_or-set_same w.card.cores c _ (fresh_core 0) core_room

    other_cores : (a : ℕ) → a ≢ c → core_of card₂ a ≡ core_of w.card a
    unfolding core_of retired_card
    other_cores a ne = get_or-set_other w.card.cores c a _ (fresh_core 0) ne

    holder_after_lem : (b : ℕ) → holder_of card₂ b ≡ released_from t (holder_of w.card b)
    unfolding holder_of retired_card released
    holder_after_lem b = list_get_or_map (released_from t) w.card.holders b no_holder

    abbrev block₂ : Bytes
    block₂ = master_block Numbers l.shape (tail_of card₂)

    is_master_lem : IsBlock block₂
    is_master_lem = master_block_lem Numbers u.well_formed.range (tail_of card₂)

    journals_stay : (a q : ℕ) → journal_at l.shape (store w.disk 0 block₂) a q ≡ journal_at l.shape w.disk a q
    journals_stay = low_journal u.well_formed u.disk 0 (omega arith) block₂ is_master_lem

    own_journal : JournalStands l₃ (store w.disk 0 block₂) c (tail_of card₂ c)
    own_journal =
        rw own_tail
        (journal_past u.well_formed c in_range_lem some_committed w.disk (store w.disk 0 block₂) (tail_of w.card c) (journals_stay c) (u.disk.journals c in_range_lem))

    master_disk : DiskStands Numbers l₃ (store w.disk 0 block₂) (tail_of card₂)
    master_disk =
        record {
          size = low_size u.well_formed u.disk 0 (omega arith) block₂ is_master_lem;
          bytes = low_bytes u.well_formed u.disk 0 (omega arith) block₂ is_master_lem;
          master = low_stored u.well_formed u.disk 0 (omega arith) block₂ is_master_lem;
          numbered = λ a h g. refl;
          journals =
              λ a h.
              elim (ℕ_discrete a c) [
                | yes q ↦ subst (λ (i : ℕ). JournalStands l₃ (store w.disk 0 block₂) i (tail_of card₂ i)) (sym q) own_journal
                | no ne ↦ rw (other_tail a ne)
                    (journal_kept l t retired o₂ a (other_closing a) (other_current a) w.disk (store w.disk 0 block₂) (tail_of w.card a) (journals_stay a)
                    (raise_other c l.book.oldest a ne) (u.disk.journals a h))
              ];
        }

    master_core : (a : ℕ) → a < l.shape.cores → CoreUp l₃ w.memory a (core_of card₂ a)
    master_core a h =
        let changed = one_changed l t retired o₂ in
        let y = u.cores a h in
        elim (ℕ_discrete a c) [
          | yes q ↦ (let y₂ = u.cores c in_range_lem in
              let r = u.well_formed.ranks c in_range_lem in
              let up = raise_at c l.book.oldest in
              rw (q, own_core)
              (core_advanced l t retired o₂ c (other_closing c) (other_current c) w.memory x (x.used - first_size c l) 0
              (rw up (omega (arith, y₂.used, records_past u.well_formed c in_range_lem some_committed (l.book.uncommitted c) some_committed)))
              (rw up (λ g. ap (λ (v : Entry). v.stage) (changed.other (new_name c (suc (l.book.oldest c))) (other_number c (omega arith))) ∙ r.done (suc (l.book.oldest c)) (omega arith) g))
              (λ _. refl) y₂))
          | no ne ↦ (let same = raise_other c l.book.oldest a ne in
              rw (other_cores a ne)
              (core_advanced l t retired o₂ a (other_closing a) (other_current a) w.memory (core_of w.card a) (core_of w.card a).used (core_of w.card a).homed (rw same y.used)
              (rw same (λ g. ap (λ (v : Entry). v.stage) (changed.other (oldest_name a l.book) (other_core (l.book.oldest a) (l.book.oldest c) ne)) ∙ y.homed g))
              (rw same y.none_homed) y))
        ]

    master_up : WellFormed l₃ → CardUp l₃ (storing w card₂ 0 block₂).world
    unfolding retired_card released image_now
    master_up fine =
        record {
          phase = u.phase;
          ledger = u.ledger;
          shape = u.shape;
          closes = u.closes;
          memory = u.memory;
          memory_bytes = u.memory_bytes;
          eight_tails = length-set w.card.tails c _ ∙ u.eight_tails;
          eight_cores = length-set w.card.cores c _ ∙ u.eight_cores;
          holder_room = length-map w.card.holders _ ∙ u.holder_room;
          well_formed = fine;
          disk = master_disk;
          cores = master_core;
          holders =
              λ b h.
              holder_after_lem b
              ∙ ap (released_from t) (u.holders b h)
              ∙ released_holder (one_changed l t retired o₂) b l.book.writes;
          images = λ b h g. u.images b h (still_held t (holder_of w.card b) (sym (ap is_held (holder_after_lem b)) ∙ g));
        }

  -- ---- by the book
  pub checkpoint_up : x.homed < length (l.book.entry t).blocks → WellFormed (with_book l (checkpoint_book c l.book)) → CardUp (with_book l (checkpoint_book c l.book)) (checkpointed c w).world
  checkpoint_up more fine = let k = checkpoint_home c x.homed l.book stage_now in rw (k, home_done more) (home_up more (rw k at fine))

  pub retire_up : x.homed ≡ length (l.book.entry t).blocks → WellFormed (with_book l (retire_book c l.book)) → CardUp (with_book l (retire_book c l.book)) (retired_oldest c w).world
  retire_up all fine = let k = retire_restages c x.homed l.book in rw (k, master_done all) (master_up all (rw k at fine))

  -- 34 and 35 are the ledger's
  pub images_left_lem : images_left c w ≡ home_left c l.book
  images_left_lem = rw (oldest_of u c in_range_lem some_committed, stage_now) refl

  -- the store in the ledger's words
  module _ (all_home : x.homed ≡ length (l.book.entry t).blocks) where
    tails_past_lem : (a : ℕ) → a < l.shape.cores → tail_of (card₂ all_home) a ≡ tails_past c l w.disk a
    unfolding tails_past
    tails_past_lem a h =
        elim (ℕ_discrete a c) [
          | yes q ↦ rw (q, eq-eqb c c refl, tail_read u.well_formed u.disk c in_range_lem) (own_tail all_home)
          | no ne ↦ rw (ne_eqb a c ne, tail_read u.well_formed u.disk a h) (other_tail all_home a ne)
        ]

  pub checkpointed_bytes : x.homed < length (l.book.entry t).blocks → ((checkpointed c w).world.disk ≡ disk_after (CHECKPOINT c) l w.disk) × ((checkpointed c w).stores ≡ 1)
  unfolding disk_after home_store_in
  checkpointed_bytes more = rw (home_done more, ap stage_count stage_now) (refl, refl)

  pub retired_bytes : x.homed ≡ length (l.book.entry t).blocks → ((retired_oldest c w).world.disk ≡ disk_after (RETIRE c) l w.disk) × ((retired_oldest c w).stores ≡ 1)
  unfolding disk_after master_store_in
  retired_bytes all =
      rw (master_done all) (ap (store w.disk 0) (master_same Numbers l.shape (tail_of (card₂ all)) (tails_past c l w.disk) (tails_past_lem all)), refl)

  -- the disk, and the home blocks, by the ledger's count of checkpoints
  module _ {m : ℕ} (stage : (l.book.entry t).stage ≡ committed m) where
    pub homed_now : x.homed ≡ m
    homed_now = ap stage_count (sym stage_now ∙ stage)

    module _ (more : m < length (l.book.entry t).blocks) where
      more_now : x.homed < length (l.book.entry t).blocks
      more_now = omega (arith, homed_now)

      home_store : (checkpointed c w).world.disk ≡ store w.disk (home_block (get_or (l.book.entry t).blocks m 0)) (get_or (l.images t) m [])
      home_store = rw (← homed_now) (ap (λ (z : Outcome World). z.world.disk) (home_done more_now))

      pub home_stored : block_at (checkpointed c w).world.disk (home_block (get_or (l.book.entry t).blocks m 0)) ≡ get_or (l.images t) m []
      home_stored = rw (home_store, ← homed_now) (low_stored u.well_formed u.disk (home_block (b more_now)) (omega (arith, home_low more_now)) (image more_now) (image_block more_now))

      pub home_others : (a : ℕ) → a ≢ get_or (l.book.entry t).blocks m 0 → block_at (checkpointed c w).world.disk (home_block a) ≡ block_at w.disk (home_block a)
      home_others a ne =
          rw (home_store, ← homed_now)
          (low_other u.well_formed u.disk (home_block (b more_now)) (omega (arith, home_low more_now)) (image more_now) (image_block more_now) (home_block a)
          (λ q. ne (rw (← homed_now) (omega arith))))

    module _ (all : m ≡ length (l.book.entry t).blocks) where
      pub homes_stay : (a : ℕ) → block_at (retired_oldest c w).world.disk (home_block a) ≡ block_at w.disk (home_block a)
      homes_stay a = rw (master_done (homed_now ∙ all)) (low_other u.well_formed u.disk 0 (omega arith) (block₂ (homed_now ∙ all)) (is_master_lem (homed_now ∙ all)) (home_block a) (omega arith))
