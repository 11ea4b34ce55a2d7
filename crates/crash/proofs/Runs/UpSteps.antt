-- A card that is up: the bytes and the histories of the blocks agree with the ledger (`RelatedUp`), and each command carried out keeps
-- it so; a cut hands on what recovery will give.
use Prim.Native.Nat.{ℕ, ◌<◌, ◌-◌, ◌≤◌}
use native.Mathlib.Omega.{arith}
use native.Mathlib.Decide.{dec_lt}
use mathlib.Core.Path.{◌≡◌, refl, sym, ap, ◌∙◌, subst}
use mathlib.Core.Logic.{inl, inr, ◌≢◌}
use mathlib.Core.Option.{Option, none, some}
use mathlib.Core.Bool.{true, false, So, cond}
use mathlib.Core.List.Memᴰ
use mathlib.Core.List.{List, [], map, Memᴰ}
use lib.ListN.{length, get_or}
use lib.Dec.{eqb, ltb}
use borrow.Author.Tests.{eqb-true, eqb-false, ltb-true, ltb-false, lt-leb}
use Rattle.model.specs.Lists.{any}
use Rattle.model.specs.Bytes.{store, replaced, Bytes, block_at, zero_memory}
use Rattle.model.specs.Shape.{home_block}
use Rattle.model.specs.Card.{same_name, down_card, core_of, holder_of, taken, shape_of, is_held}
use Rattle.model.specs.Command.{World, refusal, unstored, no_block}
use Rattle.model.specs.Valid.{Order, predecessor}
use Rattle.model.specs.Write.{written, written_memory}
use Rattle.model.specs.Commit.{closed, stored, copied}
use Rattle.model.specs.Checkpoint.{checkpointed, retired_oldest}
use Rattle.model.proofs.Lists.{cases, and_left, get_or_mem}
use Rattle.model.proofs.OneStore.{lengths_right}
use Rattle.crash.specs.Book.{Book, Write, absent, running, committed, required_in, kept, image, blank, is_closed, is_committed, is_retired, book_holder, store_book, checkpoint_book, retire_book, write_book}
use Rattle.crash.specs.Ledger.{Ledger, fresh_ledger, cut_ledger, with_book, close_ledger, valid_in, shares_lower_in, writer_blocks, copies_stored, image_now, journal_passes, number_passes, home_left}
use Rattle.crash.proofs.Commands.CardWrite.{write_up, memory_written}
use Rattle.crash.proofs.Disk.LedgerWrite.{well_formed_write}
use Rattle.crash.proofs.Books.Tests.{clash, any_in, in_any, name_equality, block_equality}
use Rattle.crash.proofs.Books.BookEntries.{next_name, oldest_name}
use Rattle.crash.proofs.Books.Required.{book_required_cases}
use Rattle.crash.proofs.Books.Largest.{member_of, RetiredBelow, valid_is_kept}
use Rattle.crash.proofs.Blocks.Invariant.{Inv, image_at, opened_of, committed_closed}
use Rattle.crash.proofs.Blocks.InvariantSteps.{inv_fresh, inv_close, inv_store, inv_retire, inv_home_store, lower_retired}
use Rattle.crash.proofs.Blocks.InvariantWrite.{home_current, open_holds, holder_took, inv_write}
use Rattle.crash.proofs.Blocks.ClosedImages.{Imaged, image_of_closed, imaged_fresh, imaged_close, imaged_store, imaged_retire, imaged_home_store, imaged_write}
use Rattle.crash.proofs.Disk.Relation.{first_waiting, WellFormed, CardUp, CardDown, holder_as}
use Rattle.crash.proofs.Disk.LedgerSteps.{well_formed_close, well_formed_store, well_formed_checkpoint, well_formed_retire}
use Rattle.crash.proofs.Commands.CardCut.{TargetsStand, cut_up}
use Rattle.crash.proofs.Runs.CutTargets.{held_newest, home_target}
use Rattle.crash.proofs.Commands.CardStore.{store_up, store_homes}
use Rattle.crash.proofs.Commands.CardClose.{close_up, memory_closed}
use Rattle.crash.proofs.Commands.CardCheckpoint.{checkpoint_up, retire_up, homed_now, home_stored, home_others, homes_stay}
use Rattle.crash.proofs.Disk.LedgerStages.{below_oldest, closed_present, stored_unretired, committed_rank}
use Rattle.crash.specs.Claims.{IsBytes}
use Rattle.model.specs.Reading.{read_block, read_conditions, read_number}
use Rattle.crash.proofs.Disk.ReadMaster.{shape_up}
use Rattle.model.specs.declared.Name.{Name}
use Rattle.model.specs.declared.Shape.{Shape}

-- ---- a card that is up: the bytes and the histories of the blocks agree with the ledger
pub record RelatedUp (l : Ledger) (w : World) : Type 0 where
  pub up : CardUp l w
  pub home : ℕ → Bytes
  pub homes : (b : ℕ) → b < l.shape.blocks → block_at w.disk (home_block b) ≡ home b
  pub inv : Inv home l
  pub imaged : Imaged l

-- ---- what a committed transaction requires is there: those listed, and the one before since the card came up
before_there : (l : Ledger) → WellFormed l → (t : Name) → is_committed (l.book.entry t).stage ≡ true → l.book.begun.first t.core < t.number
    → (l.book.entry (predecessor t)).stage ≢ absent
before_there l f t h low =
    let present = closed_present _ (committed_closed (l.book.entry t).stage h) in
    let r = f.ranks t.core (f.limits t present).core in
    elim (dec_lt (t.number - 1) (l.book.oldest t.core)) [
      | yes lt ↦ (λ e. clash (ap is_retired (r.below.all_retired (t.number - 1) (omega arith) lt)) (ap is_retired e))
      | no ge ↦ cases (is_retired (l.book.entry t).stage)
          (λ d. absurd (omega (arith, ltb-true t.number (l.book.oldest t.core) (below_oldest r t.number present ∙ d))))
          (λ d. closed_present _ (stored_unretired r (t.number - 1) (omega arith) (omega (arith, (committed_rank r t.number h d).1))).is_closed_lem)
    ]

pub required_there : (l : Ledger) → WellFormed l → (t u : Name) → is_committed (l.book.entry t).stage ≡ true → Memᴰ u (required_in l.book t)
    → (l.book.entry u).stage ≢ absent
required_there l f t u h m =
    elim (book_required_cases l.book t u m) [
      | inl n ↦ f.named t u n
      | inr e ↦ subst (λ (x : Name). (l.book.entry x).stage ≢ absent) (sym e.0) (before_there l f t h e.1)
    ]

-- required ones below a core's oldest number are retired
pub retired_below : (l : Ledger) → WellFormed l → RetiredBelow l.book
retired_below l f t u h n =
    let there = required_there l f t u h (any_in name_equality u _ n) in
    below_oldest (f.ranks u.core (f.limits u there).core) u.number there

module _ {l : Ledger} {w : World} (u : RelatedUp l w) where
  abbrev k : Book
  k = l.book

  -- whoever runs and took a block is its holder
  running_holds : (t : Name) (x : ℕ) → (k.entry t).stage ≡ running → Memᴰ x (k.entry t).blocks → book_holder k x k.writes ≡ some t
  running_holds t x r m = open_holds u.inv x t (ap is_closed r) (in_any block_equality m)

  -- a holder is open: it took the block
  pub holder_open : (b : ℕ) (n : Name) → book_holder k b k.writes ≡ some n → (k.entry n).stage ≢ absent
  holder_open b n h e =
      Memᴰ.not-nil (subst (Memᴰ b) (u.up.well_formed.unopened n e).0 (any_in block_equality b _ (holder_took u.inv b n h)))

  -- a block below B is read without a refusal
  up_number : (b : ℕ) → b < l.shape.blocks → read_number b w ≡ 0
  unfolding read_number read_conditions no_block refusal shape_of
  up_number b low = rw (lengths_right w u.up.disk.size u.up.memory, u.up.phase, shape_up u.up, lt-leb l.shape.blocks b low)

  -- a held one is read from memory, another from home, and both have the current image
  pub up_reads : (b : ℕ) → b < l.shape.blocks → read_block b w ≡ image_now l b
  unfolding read_block
  up_reads b low =
      rw (up_number b low)
      (cases (is_held (holder_of w.card b)) (λ h. rw h (u.up.images b low h)) (λ h. rw h (from_home_lem (book_holder k b k.writes) refl h)))
    where
      from_home_lem : (x : Option Name) → book_holder k b k.writes ≡ x → is_held (holder_of w.card b) ≡ false → block_at w.disk (home_block b) ≡ image_now l b
      from_home_lem none e h = u.homes b low ∙ home_current u.inv b e
      from_home_lem (some n) e h = clash (ap is_held (u.up.holders b low ∙ ap holder_as e)) h

  -- WRITE
  module _ (c : ℕ) (in_range_lem : c < l.shape.cores) (b : ℕ) (low : b < l.shape.blocks) (o : ℕ) (inside : o ≤ 124) (v : Bytes) (fits : (length v ≡ 4) × IsBytes v)
      (no_25 : ltb 8 (length (writer_blocks c k (write_book c b o v k))) ≡ false)
      (no_26 : journal_passes c l.shape k (write_book c b o v k) ≡ false) (no_27 : number_passes c k ≡ false) where
    home_image : book_holder k b k.writes ≡ none → block_at w.disk (home_block b) ≡ image_now l b
    home_image h = u.homes b low ∙ home_current u.inv b h

    well_formed_after : WellFormed (with_book l (write_book c b o v k))
    unfolding writer_blocks number_passes
    well_formed_after = well_formed_write l u.up.well_formed c in_range_lem b o v low inside fits.0 fits.1 running_holds (λ n x h. holder_open x n h) no_25 no_27

    pub write_memory : written_memory w c b o v ≡ store w.memory b (replaced o 4 (image_now l b) v)
    unfolding journal_passes writer_blocks
    write_memory = memory_written u.up c in_range_lem b low o inside v fits.0 fits.1 (holder_open b) home_image (ltb-false _ _ no_26) well_formed_after

    pub write_at : RelatedUp (with_book l (write_book c b o v k)) (written c b o v w).world
    unfolding written journal_passes writer_blocks
    write_at =
        let current = (u.up.well_formed.ranks c in_range_lem).current in
        record {
          up = write_up u.up c in_range_lem b low o inside v fits.0 fits.1 (holder_open b) home_image (ltb-false _ _ no_26) well_formed_after;
          home = u.home;
          homes = u.homes;
          inv = inv_write u.inv c b o v current;
          imaged = imaged_write l u.imaged c b o v current;
        }

  module _ (c : ℕ) (in_range_lem : c < l.shape.cores) where
    pub store_at : k.uncommitted c < k.next c → RelatedUp (with_book l (store_book c k)) (stored c w).world
    store_at busy =
        let s = first_waiting (u.up.well_formed.ranks c in_range_lem) busy in
        record {
          up = store_up u.up c in_range_lem busy (well_formed_store l u.up.well_formed c in_range_lem busy);
          home = u.home;
          homes = λ b h. store_homes u.up c in_range_lem busy b h ∙ u.homes b h;
          inv = inv_store u.inv c s.0 s.1;
          imaged = imaged_store u.inv u.imaged c s.0 s.1;
        }

    pub close_memory : (k.entry (next_name c k)).stage ≡ running → k.uncommitted c ≡ k.next c
        → copied c 0 (taken (core_of w.card c).running) w.memory ≡ copies_stored c 0 (map (image_now l) (k.entry (next_name c k)).blocks) w.memory
    close_memory runs free =
        memory_closed u.up c in_range_lem runs free (λ b m. running_holds (next_name c k) b runs m) (well_formed_close l u.up.well_formed c in_range_lem runs free)

    pub close_at : (k.entry (next_name c k)).stage ≡ running → k.uncommitted c ≡ k.next c → RelatedUp (close_ledger c l) (closed c w).world
    unfolding closed close_ledger
    close_at runs free =
        record {
          up = close_up u.up c in_range_lem runs free (λ b m. running_holds (next_name c k) b runs m) (well_formed_close l u.up.well_formed c in_range_lem runs free);
          home = u.home;
          homes = u.homes;
          inv = inv_close u.inv c runs;
          imaged = imaged_close u.inv u.imaged c runs;
        }

    -- CHECKPOINT and RETIRE of a transaction that is valid and shares no block with one of a lower stamp
    module _ (some_committed : k.oldest c < k.uncommitted c)
        (valid : any (same_name (oldest_name c k)) (valid_in k) ≡ true) (lowest : shares_lower_in l (oldest_name c k) ≡ false) where
      abbrev t : Name
      t = oldest_name c k

      abbrev bs : List ℕ
      bs = (k.entry t).blocks

      is_kept : So (member_of (kept k) t)
      is_kept =
          and_left (member_of (kept k) t) _
          (sym (valid_is_kept k (opened_of k u.inv.known) (retired_below l u.up.well_formed) u.inv.retired_kept t) ∙ valid)

      module _ {m : ℕ} (stage : (k.entry t).stage ≡ committed m) where
        homed_is : (core_of w.card c).homed ≡ m
        homed_is = homed_now u.up c in_range_lem some_committed stage

        retire_by : m ≡ length bs → RelatedUp (with_book l (retire_book c k)) (retired_oldest c w).world
        retire_by e =
            record {
              up = retire_up u.up c in_range_lem some_committed (homed_is ∙ e) (well_formed_retire l u.up.well_formed c in_range_lem some_committed stage);
              home = u.home;
              homes = λ b h. homes_stay u.up c in_range_lem some_committed stage e b ∙ u.homes b h;
              inv = inv_retire u.inv c m stage is_kept (omega arith);
              imaged = imaged_retire u.inv u.imaged c m stage;
            }

        home_by : m < length bs → RelatedUp (with_book l (checkpoint_book c k)) (checkpointed c w).world
        home_by less =
            let b₀ = get_or bs m 0 in
            let image : get_or (l.images t) m [] ≡ image_at l t b₀ = image_of_closed l u.imaged t (ap is_closed stage) m less in
            record {
              up = checkpoint_up u.up c in_range_lem some_committed (omega (arith, homed_is)) (well_formed_checkpoint l u.up.well_formed c in_range_lem some_committed stage less);
              home = λ b. cond (eqb b b₀) (image_at l t b₀) (u.home b);
              homes =
                  λ b h.
                  cases (eqb b b₀)
                  (λ e. rw (e, eqb-true b b₀ e) (home_stored u.up c in_range_lem some_committed stage less ∙ image))
                  (λ e. rw e (home_others u.up c in_range_lem some_committed stage less b (eqb-false b b₀ e) ∙ u.homes b h));
              inv =
                  inv_home_store u.inv c m stage is_kept less
                  (lower_retired u.inv t lowest b₀ (in_any block_equality (get_or_mem bs m 0 less)));
              imaged = imaged_home_store u.inv u.imaged c m stage;
            }

      abbrev first : (n : ℕ) × ((k.entry t).stage ≡ committed n) × (n ≤ length bs)
      first = (u.up.well_formed.ranks c in_range_lem).first some_committed

      pub less_home : home_left c k ≡ true → (core_of w.card c).homed < length bs
      less_home h = let z : ltb first.0 (length bs) ≡ true = rw first.1 at h in omega (arith, homed_is first.1, ltb-true first.0 (length bs) z)

      pub all_home : home_left c k ≡ false → (core_of w.card c).homed ≡ length bs
      all_home h = let z : ltb first.0 (length bs) ≡ false = rw first.1 at h in omega (arith, homed_is first.1, ltb-false first.0 (length bs) z, first.2)

      pub checkpoint_at : home_left c k ≡ true → RelatedUp (with_book l (checkpoint_book c k)) (checkpointed c w).world
      checkpoint_at h = home_by first.1 (omega (arith, less_home h, homed_is first.1))

      pub retire_at : home_left c k ≡ false → RelatedUp (with_book l (retire_book c k)) (retired_oldest c w).world
      retire_at h = retire_by first.1 (omega (arith, all_home h, homed_is first.1))

  -- a cut hands on what recovery will give
  pub up_gives : TargetsStand l w.disk
  up_gives =
      let f = u.up.well_formed in
      record {
        held = λ b h m. held_newest u.inv (retired_below l f) b u.imaged m;
        home = λ b h n. u.homes b h ∙ home_target u.inv (retired_below l f) b h n;
      }

  pub cut_at : CardDown (cut_ledger l) (unstored w down_card zero_memory).world
  cut_at = cut_up u.up up_gives

-- a card that has just come up, over the area that its saved writes give
pub fresh_at : (o : Order) (s : Shape) (saved : List Write) (first : ℕ → ℕ) (w : World) → CardUp (fresh_ledger o s saved first) w
    → ((b : ℕ) → b < s.blocks → block_at w.disk (home_block b) ≡ image blank saved b) → RelatedUp (fresh_ledger o s saved first) w
unfolding fresh_ledger
fresh_at o s saved first w up homes =
    record { up = up; home = image blank saved; homes = homes; inv = inv_fresh o s saved first; imaged = imaged_fresh o s saved first }
