-- What a cut by any marks keeps. A master store, and WRITE and CLOSE after it, change nothing of what is kept without lost commits: so a
-- lost one is not seen in the book.
use Prim.Native.Nat.{ℕ, ◌<◌}
use mathlib.Core.Path.{◌≡◌, refl, sym, ap, ◌∙◌}
use mathlib.Core.Logic.{◌⊎◌, inl, inr}
use mathlib.Core.Bool.{Bool, true, false, ◌||◌}
use mathlib.Core.List.{List, [], ◌++◌}
use lib.ListN.{length}
use Rattle.model.specs.Lists.{any, select}
use Rattle.model.specs.Bytes.{Bytes}
use Rattle.model.specs.Card.{is_up}
use Rattle.model.specs.Command.{refusal}
use Rattle.model.specs.Tape.{CLOSE, RECOVER, RETIRE, Task, WRITE}
use Rattle.model.specs.declared.Name.{Name}
use Rattle.model.proofs.Lists.{cases, or_none}
use Rattle.crash.proofs.Books.BookOrder.{noted_begun}
use Rattle.crash.proofs.Disk.LedgerCheckpoint.{advanced}
use Rattle.model.specs.Write.{written}
use Rattle.model.specs.Commit.{closed}
use Rattle.model.specs.Valid.{Order}
use Rattle.crash.specs.Book.{absent, running, Beginning, retired, raise, Write, is_running, is_committed, empty_book, kept_writes, has_running, write_book, close_book}
use Rattle.crash.specs.Service.{noted}
use Rattle.crash.specs.Ledger.{Ledger, with_book, carried_out, close_ledger, cut_ledger, recover_ledger, fresh_ledger, first_number, refusals_of, retire_refusals}
use Rattle.crash.proofs.Books.Tests.{clash}
use Rattle.crash.proofs.Books.BookSteps.{write_writes}
use Rattle.crash.proofs.Books.BookEntries.{next_name, oldest_name}
use Rattle.crash.proofs.Books.Largest.{stage_of}
use Rattle.crash.proofs.Runs.RunClaims.{HasData}
use Rattle.crash.proofs.Runs.UpSteps.{RelatedUp, close_at}
use Rattle.crash.proofs.Runs.Unrefused.{may_retire, MayClose}
use Rattle.drive.specs.LostCommits.{book_without}
use Rattle.drive.specs.Since.{StoreKind, home_since, lost_since, is_master_store}
use Rattle.drive.specs.Drive.{Drive}
use Rattle.drive.specs.DriveLedger.{cut_without, DriveLedger, home_too_early, barrier_missing}
use Rattle.drive.proofs.Lost.Without.{Last}
use Rattle.drive.proofs.Places.BetweenDisks.{lost_since_lem}
use Rattle.drive.proofs.Behind.Home.{not_since}
use Rattle.drive.proofs.Behind.Idle.{close_idle, write_idle}
use Rattle.drive.proofs.Steps.Related.{DriveUp, DriveMaster, DriveDown, up_cut, down_cut}
use Rattle.drive.proofs.Steps.Checkpoint.{stage, safe_t, formed₃, master_ledger}
use Rattle.drive.proofs.Steps.Idle.{close_carried}
use Rattle.drive.proofs.Steps.Theorem.{write_range, written_up}
use Rattle.drive.proofs.Books.Kept.{idle_writes, written_writes, retired_writes}

-- what a ledger will give after a lossy cut
abbrev pub lossy_writes : (ℕ → Bool) → List StoreKind → Ledger → List Write
lossy_writes marked ks l = kept_writes (cut_without marked ks l).book ++ (cut_without marked ks l).saved

-- whatever is marked, a cut leaves as much of the one ledger as of the other
pub record SameKept (ks : List StoreKind) (l l₂ : Ledger) : Type 0 where
  pub shape : l.shape ≡ l₂.shape
  pub order : l.book.begun.order ≡ l₂.book.begun.order
  pub writes : (marked : ℕ → Bool) → lossy_writes marked ks l ≡ lossy_writes marked ks l₂

pub same_then : {ks : List StoreKind} {l l₂ l₃ : Ledger} → SameKept ks l l₂ → SameKept ks l₂ l₃ → SameKept ks l l₃
same_then a b = record { shape = a.shape ∙ b.shape; order = a.order ∙ b.order; writes = λ marked. a.writes marked ∙ b.writes marked }

-- what an up ledger gives after a lossy cut
up_writes : (marked : ℕ → Bool) (ks : List StoreKind) (l : Ledger) → is_up l.phase ≡ true → lossy_writes marked ks l ≡ kept_writes (book_without (lost_since marked ks) l.book) ++ l.saved
unfolding cut_ledger
up_writes marked ks l p = ap (λ (x : Ledger). kept_writes x.book ++ x.saved) (up_cut marked ks l p)

-- ---- RETIRE: as much is kept before it
retire_free : (c : ℕ) (d : DriveLedger) → barrier_missing (RETIRE c) d ≡ false → (home_too_early c d ≡ false) × (home_since d.since (oldest_name c d.now.book) ≡ false)
unfolding barrier_missing
retire_free c d h = let a = or_none (any is_master_store d.since || home_too_early c d) _ h in ((or_none (any is_master_store d.since) _ a.0).1, a.1)

module _ {d : DriveLedger} {w : Drive} (u : DriveUp d w) (c : ℕ) (h : refusal (retire_refusals c d.now) ≡ 0)
    (g : barrier_missing (RETIRE c) d ≡ false) (few : length w.since < 64) where
  abbrev l : Ledger
  l = d.now

  kept_before : (marked : ℕ → Bool) → lossy_writes marked d.since l ≡ lossy_writes marked d.since (carried_out (RETIRE c) l)
  kept_before marked =
      let m = may_retire u.up c h in
      let f = retire_free c d g in
      let st = stage u c m.0 in
      let safe = safe_t u c m.0 f.0 in
      let t = oldest_name c l.book in
      let s = u.between.cached in
      let free : lost_since marked d.since t ≡ false =
      cases (lost_since marked d.since t) (λ y. clash (lost_since_lem marked d.since t y) (not_since u.up.up.well_formed u.up.up.disk s c m.0.in_range_lem _ st safe)) (λ y. y) in
      let e = master_ledger u c m.0 f.0 few m.1 f.1 in
      let k = retired_writes u.up.up.well_formed t _ st _ (formed₃ u c m.0 f.0 few m.1 f.1) (lost_since marked d.since) (λ x y. s.last x (lost_since_lem marked d.since x y)) free in
      let p : is_up l.phase ≡ true = ap is_up u.up.up.ledger in
      up_writes marked d.since l p ∙ ap (λ (ws : List Write). ws ++ l.saved) (sym k)
      ∙ sym (up_writes marked d.since (advanced l t retired (raise c l.book.oldest)) p) ∙ ap (lossy_writes marked d.since) (sym e)

  -- A master store changes nothing of what is kept without lost commits.
  pub retire_kept : SameKept d.since l (carried_out (RETIRE c) l)
  unfolding carried_out
  retire_kept =
      record { shape = refl; order = ap (λ (x : Beginning). x.order) (sym (noted_begun (RETIRE c) l.book)); writes = unfold carried_out in kept_before }

-- ---- WRITE and CLOSE after a master store
module _ {d : DriveLedger} {w : Drive} (u : DriveMaster d w) where
  last_lost : (marked : ℕ → Bool) → Last d.now (lost_since marked u.kinds)
  last_lost marked t h = u.between.cached.last t (lost_since_lem marked u.kinds t h)

  was_up : is_up d.now.phase ≡ true
  was_up = ap is_up u.up.up.ledger

  module _ (task : Task) (c i j : ℕ) (x : Bytes) (fits : HasData (WRITE task c i j x)) (h : refusal (refusals_of (WRITE task c i j x) d.now) ≡ 0) where
    current : (stage_of d.now.book (next_name c d.now.book) ≡ absent) ⊎ (stage_of d.now.book (next_name c d.now.book) ≡ running)
    current = (u.up.up.well_formed.ranks c (write_range u.up task c i j x fits h)).current

    abbrev written_ledger : Ledger
    written_ledger = with_book d.now (write_book c i j x d.now.book)

    after : RelatedUp written_ledger (written c i j x w.world).world
    after = written_up u.up task c i j x fits h

    kept_on : (marked : ℕ → Bool) → lossy_writes marked u.kinds d.now ≡ lossy_writes marked u.kinds written_ledger
    kept_on marked =
        up_writes marked u.kinds d.now was_up
        ∙ ap (λ (ws : List Write). ws ++ d.now.saved)
        (sym (written_writes u.up.up.well_formed after.up.well_formed (write_idle d.now u.up.up.well_formed c i j x current) (lost_since marked u.kinds) (last_lost marked) refl _
        (write_writes d.now.book c current i j x) (elim current [ inl q ↦ ap is_committed q | inr q ↦ ap is_committed q ])))
        ∙ sym (up_writes marked u.kinds written_ledger was_up)

    -- Nor does WRITE after it.
    pub write_kept : SameKept u.kinds d.now (carried_out (WRITE task c i j x) d.now)
    unfolding carried_out noted
    write_kept = record { shape = refl; order = ap (λ (z : Beginning). z.order) (sym begun_on); writes = kept_on }
      where
        begun_on : (write_book c i j x d.now.book).begun ≡ d.now.book.begun
        begun_on = unfold noted in noted_begun (WRITE task c i j x) d.now.book

  module _ (c : ℕ) (m : MayClose d.now c) where
    runs : has_running d.now.book c ≡ true
    runs = ap is_running m.runs

    after_close : RelatedUp (close_ledger c d.now) (closed c w.world).world
    after_close = close_at u.up c m.in_range_lem m.runs m.none_closed

    same_writes : (close_ledger c d.now).book.writes ≡ d.now.book.writes
    same_writes = unfold close_ledger close_book in refl

    closed_writes : (marked : ℕ → Bool) → lossy_writes marked u.kinds (close_ledger c d.now) ≡ kept_writes (book_without (lost_since marked u.kinds) (close_ledger c d.now).book) ++ d.now.saved
    closed_writes marked =
        let q : (close_ledger c d.now).saved ≡ d.now.saved = unfold close_ledger in refl in
        up_writes marked u.kinds (close_ledger c d.now) (unfold close_ledger in was_up) ∙ ap (λ (ws : List Write). kept_writes (book_without (lost_since marked u.kinds) (close_ledger c d.now).book) ++ ws) q

    -- Nor does CLOSE.
    pub close_kept : SameKept u.kinds d.now (carried_out (CLOSE c) d.now)
    close_kept =
        rw (close_carried d.now c runs)
        (record {
          shape = unfold close_ledger in refl;
          order = unfold close_ledger close_book in refl;
          writes =
              λ marked.
              up_writes marked u.kinds d.now was_up
              ∙ ap (λ (ws : List Write). ws ++ d.now.saved)
              (sym (idle_writes u.up.up.well_formed after_close.up.well_formed (close_idle d.now u.up.up.well_formed c m.runs) (lost_since marked u.kinds) (last_lost marked)
              (unfold close_ledger in refl) same_writes))
              ∙ sym (closed_writes marked);
        })

-- ---- recovery's master store
none_kept : (o : Order) (f : ℕ → ℕ) (lost : Name → Bool) → kept_writes (book_without lost (empty_book o f)) ≡ []
unfolding kept_writes book_without empty_book select
none_kept o f lost = refl

module _ {d : DriveLedger} {w : Drive} (v : DriveDown d w) (none_left : d.now.left ≡ []) where
  abbrev fresh : Ledger
  fresh = fresh_ledger d.now.book.begun.order d.now.shape (kept_writes d.now.book ++ d.now.saved) (first_number d.now)

  fresh_kept : (marked : ℕ → Bool) → lossy_writes marked [] d.now ≡ lossy_writes marked [] fresh
  fresh_kept marked =
      let a : lossy_writes marked [] d.now ≡ kept_writes d.now.book ++ d.now.saved = ap written (down_cut marked [] d.now (ap is_up v.down.ledger)) ∙ cut_written in
      let c : lossy_writes marked [] fresh ≡ kept_writes d.now.book ++ d.now.saved = up_writes marked [] fresh (unfold fresh_ledger in refl) ∙ fresh_written in
      a ∙ sym c
    where
      written : Ledger → List Write
      written l = kept_writes l.book ++ l.saved

      cut_written : kept_writes (cut_ledger d.now).book ++ (cut_ledger d.now).saved ≡ kept_writes d.now.book ++ d.now.saved
      cut_written = unfold cut_ledger in refl

      fresh_written : kept_writes (book_without (lost_since marked []) fresh.book) ++ fresh.saved ≡ kept_writes d.now.book ++ d.now.saved
      fresh_written = unfold fresh_ledger in ap (λ (ws : List Write). ws ++ (kept_writes d.now.book ++ d.now.saved)) (none_kept d.now.book.begun.order (first_number d.now) (lost_since marked []))

  recover_carried : carried_out RECOVER d.now ≡ fresh
  unfolding carried_out recover_ledger
  recover_carried = ap (λ (bs : List ℕ). recover_ledger bs d.now) none_left

  -- Nor does recovery's master store, which brings the card up.
  pub recover_kept : SameKept [] d.now (carried_out RECOVER d.now)
  recover_kept = rw recover_carried (record { shape = unfold fresh_ledger in refl; order = unfold fresh_ledger empty_book in refl; writes = fresh_kept })
