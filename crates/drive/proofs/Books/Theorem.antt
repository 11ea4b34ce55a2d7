-- What service book and ledger of a drive tell of the transactions stays the same through every command that is carried out.
use Prim.Native.Nat.{ℕ, suc, ◌-◌, ◌<◌}
use native.Mathlib.Omega.{arith}
use mathlib.Core.Path.{◌≡◌, refl, sym, ap, ◌∙◌, subst}
use mathlib.Core.Bool.{Bool, true, false, cond}
use mathlib.Core.List.{List, [], ◌∷◌, ◌++◌}
use mathlib.Core.Option.{Option, none}
use lib.ListN.{length}
use Rattle.model.specs.Lists.{any}
use Rattle.model.specs.Bytes.{Bytes}
use Rattle.model.specs.Card.{is_down, is_up}
use Rattle.model.specs.Command.{refusal}
use Rattle.model.specs.Tape.{CHECKPOINT, CLOSE, CUT, Command, FORMAT, RECOVER, RETIRE, STORE, Task, WRITE}
use Rattle.model.specs.declared.Name.{Name}
use Rattle.model.specs.declared.Phase.TheVariants.{Down}
use Rattle.model.proofs.Lists.{cases, or_none}
use Rattle.model.specs.Step.{next_store}
use Rattle.crash.specs.Book.{Book, is_running, empty_book, kept_writes, has_running, close_book}
use Rattle.crash.specs.Service.{empty_service, noted, with_noted, served}
use Rattle.crash.specs.Ledger.{Ledger, blank_ledger, carried_out, close_ledger, recover_ledger, fresh_ledger, first_number, refusals_of, format_refusals, write_refusals, close_refusals, store_refusals, checkpoint_refusals, retire_refusals}
use Rattle.crash.proofs.Books.Tests.{clash}
use Rattle.crash.proofs.Books.BookEntries.{uncommitted_name}
use Rattle.crash.proofs.Books.Rename.{Renamed, empty_renamed}
use Rattle.crash.proofs.Books.Agreement.{Agrees, not_down, down}
use Rattle.crash.proofs.Runs.RunClaims.{HasData}
use Rattle.crash.proofs.Runs.Unrefused.{may_close, MayClose}
use Rattle.crash.proofs.Runs.Theorem.{not_done, refused_21, refused_22, up_21, up_23}
use Rattle.drive.specs.Since.{StoreKind, record_part, commit, home, master, restore, is_master_store}
use Rattle.drive.specs.Drive.{Drive}
use Rattle.drive.specs.DriveLedger.{DriveLedger, at_barrier, commit_next, kind_of, left_kind, barrier_missing, lossy_cut, ledger_after, ledger_cut, ledger_done}
use Rattle.drive.specs.DriveBook.{DriveService, cut_losing, commit_made, served_barrier, drive_served}
use Rattle.drive.proofs.Steps.Related.{DriveBlank, DriveUp, DriveMaster, DriveDown, Formatted, drive_up, drive_master, drive_down, DriveRelated, drive_blank, drive_formatted, not_blank_lem, master_since, losing_related}
use Rattle.drive.proofs.Steps.Recover.{no_kinds, none_long}
use Rattle.drive.proofs.Steps.Idle.{close_carried}
use Rattle.drive.proofs.Steps.Theorem.{FewStores}
use Rattle.drive.proofs.Books.SameKept.{SameKept, same_then, retire_kept, write_kept, close_kept, recover_kept}
use Rattle.drive.proofs.Books.Kept.{same_none, same_other}
use Rattle.drive.proofs.Books.Steps.{BookUp, BookDown, BookPhase, book_blank, book_up, book_master, book_down, book_losing, noted_up, store_kinds}

-- ---- STORE and CHECKPOINT of a card that is up
store_unmastered : (c : ℕ) (k : Book) (ks : List StoreKind) → any is_master_store ks ≡ false → any is_master_store (cond (commit_next c k) (commit (uncommitted_name c k)) (record_part c) ∷ ks) ≡ false
unfolding any
store_unmastered c k ks h = cases (commit_next c k) (λ e. rw e h) (λ e. rw e h)

module _ (v : DriveService) (d : DriveLedger) (b : BookUp v d.now v.since d.since) (n : any is_master_store d.since ≡ false) where
  store_agrees : (c : ℕ) → BookPhase (drive_served (STORE c) v) (ledger_done (STORE c) d)
  unfolding drive_served ledger_done ledger_after carried_out served kind_of
  store_agrees c = book_up (noted_up b (STORE c) _ _ (store_kinds b c) _) (store_unmastered c d.now.book d.since n)

  checkpoint_agrees : (c : ℕ) → BookPhase (drive_served (CHECKPOINT c) v) (ledger_done (CHECKPOINT c) d)
  unfolding drive_served ledger_done ledger_after carried_out served commit_made kind_of any
  checkpoint_agrees c = book_up (noted_up b (CHECKPOINT c) _ _ (same_other (home _) (λ t. refl) b.kinds) _) n

-- ---- RETIRE
retire_agrees : (v : DriveService) {d : DriveLedger} {w : Drive} (u : DriveUp d w) → BookUp v d.now v.since d.since → (c : ℕ) → refusal (retire_refusals c d.now) ≡ 0
    → barrier_missing (RETIRE c) d ≡ false → length w.since < 64 → BookPhase (drive_served (RETIRE c) v) (ledger_done (RETIRE c) d)
unfolding drive_served ledger_done ledger_after served commit_made kind_of
retire_agrees v {d} u b c h g few =
    book_master v.since d.since refl refl (unfold carried_out in noted_up b (RETIRE c) v.since d.since b.kinds _) (retire_kept u c h g few)

-- ---- WRITE and CLOSE
module _ (v : DriveService) (d : DriveLedger) where
  -- with no master store since the barrier
  module _ (b : BookUp v d.now v.since d.since) (n : any is_master_store d.since ≡ false) where
    write_agrees : (task : Task) (c i o : ℕ) (x : Bytes) → BookPhase (drive_served (WRITE task c i o x) v) (ledger_done (WRITE task c i o x) d)
    unfolding drive_served ledger_done ledger_after carried_out served kind_of
    write_agrees task c i o x = book_up (noted_up b (WRITE task c i o x) v.since d.since b.kinds v.since) n

  -- CLOSE: the ledger's book is the one that notes it
  close_noted : (c : ℕ) → has_running d.now.book c ≡ true → noted (CLOSE c) d.now.book ≡ close_book c d.now.book
  unfolding noted
  close_noted c h = rw h refl

  closed_up : (c : ℕ) → has_running d.now.book c ≡ true → (ns : List (Option Name)) (ks : List StoreKind) → BookUp v d.now ns ks
      → BookUp (record { service = with_noted (CLOSE c) v.service; since = v.since }) (close_ledger c d.now) ns ks
  unfolding close_ledger
  closed_up c h ns ks b =
      let x = noted_up b (CLOSE c) ns ks b.kinds v.since in
      record { shift = x.shift; up = x.up; books = subst (Renamed x.shift (noted (CLOSE c) v.service.book)) (close_noted c h) x.books; low = x.low; saved = x.saved; kinds = x.kinds }

  close_up : (c : ℕ) → has_running d.now.book c ≡ true → (ns : List (Option Name)) (ks : List StoreKind) → BookUp v d.now ns ks
      → BookUp (record { service = with_noted (CLOSE c) v.service; since = v.since }) (carried_out (CLOSE c) d.now) ns ks
  close_up c h ns ks b =
      subst (λ (x : Ledger). BookUp (record { service = with_noted (CLOSE c) v.service; since = v.since }) x ns ks) (sym (close_carried d.now c h)) (closed_up c h ns ks b)

  close_agrees : (c : ℕ) → has_running d.now.book c ≡ true → BookUp v d.now v.since d.since → any is_master_store d.since ≡ false
      → BookPhase (drive_served (CLOSE c) v) (ledger_done (CLOSE c) d)
  unfolding drive_served ledger_done ledger_after served kind_of
  close_agrees c h b n = book_up (close_up c h v.since d.since b) n

-- with a master store as the last
module _ (v : DriveService) {d : DriveLedger} {w : Drive} (u : DriveMaster d w) (ns : List (Option Name)) (ks : List StoreKind) (e : v.since ≡ none ∷ ns) (f : d.since ≡ master ∷ ks)
    (b : BookUp v d.now ns ks) (same : SameKept ks d.before d.now) where
  -- the stores before it are the same, as the drive and as the book tell them
  on : (l : Ledger) → SameKept u.kinds d.now l → SameKept ks d.before l
  on l k = same_then same (subst (λ (xs : List StoreKind). SameKept xs d.now l) (ap tail_of (sym u.is_master_lem ∙ f)) k)
    where
      tail_of : List StoreKind → List StoreKind
      tail_of [] = []
      tail_of (x ∷ xs) = xs

  write_master : (task : Task) (c i j : ℕ) (x : Bytes) → HasData (WRITE task c i j x) → refusal (refusals_of (WRITE task c i j x) d.now) ≡ 0
      → BookPhase (drive_served (WRITE task c i j x) v) (ledger_done (WRITE task c i j x) d)
  unfolding drive_served ledger_done ledger_after served kind_of
  write_master task c i j x fits h =
      book_master ns ks e f (unfold carried_out in noted_up b (WRITE task c i j x) ns ks b.kinds v.since) (on _ (write_kept u task c i j x fits h))

  close_master : (c : ℕ) → MayClose d.now c → BookPhase (drive_served (CLOSE c) v) (ledger_done (CLOSE c) d)
  unfolding drive_served ledger_done ledger_after served kind_of
  close_master c m = book_master ns ks e f (close_up v d c (ap is_running m.runs) ns ks b) (on _ (close_kept u c m))

-- ---- RECOVER of a card that is down
module _ (v : DriveService) {d : DriveLedger} {w : Drive} (x : DriveDown d w) (b : BookDown v d.now) (n : any is_master_store d.since ≡ false) (long : length v.since ≡ length d.since) where
  restored : (i : ℕ) (bs : List ℕ) → BookPhase (record { service = v.service; since = none ∷ v.since }) (record { now = recover_ledger (i ∷ bs) d.now; before = d.now; since = restore ∷ d.since })
  unfolding recover_ledger any
  restored i bs = book_down (record { is_down = refl; empty = b.empty; saved = b.saved }) n (ap suc long)

  abbrev fresh : Ledger
  fresh = fresh_ledger d.now.book.begun.order d.now.shape (kept_writes d.now.book ++ d.now.saved) (first_number d.now)

  fresh_up : v.since ≡ [] → BookUp (record { service = v.service; since = none ∷ v.since }) fresh [] []
  unfolding fresh_ledger
  fresh_up none_yet =
      record {
        shift = λ c. first_number d.now c - 1;
        up = refl;
        books = rw b.empty (empty_renamed d.now.book.begun.order (λ c. first_number d.now c - 1) (λ c. 1) (first_number d.now) (λ c. omega arith));
        low = rw b.empty (λ c. unfold empty_book in omega arith);
        saved = b.saved;
        kinds = same_none;
      }

  kept_on : d.now.left ≡ [] → SameKept [] d.now (recover_ledger [] d.now)
  unfolding carried_out
  kept_on e = subst (λ (bs : List ℕ). SameKept [] d.now (recover_ledger bs d.now)) e (unfold carried_out in recover_kept x e)

  emptied : d.now.left ≡ [] → v.since ≡ [] → d.since ≡ []
      → BookPhase (record { service = v.service; since = none ∷ v.since }) (record { now = recover_ledger [] d.now; before = d.now; since = master ∷ d.since })
  unfolding recover_ledger
  emptied e p q = book_master [] [] (ap (λ (xs : List (Option Name)). none ∷ xs) p) (ap (λ (xs : List StoreKind). master ∷ xs) q) (fresh_up p) (unfold recover_ledger in kept_on e)

  recover_agrees : barrier_missing RECOVER d ≡ false → length w.since < 64 → BookPhase (drive_served RECOVER v) (ledger_done RECOVER d)
  unfolding drive_served ledger_done ledger_after carried_out kind_of served commit_made left_kind
  recover_agrees free few = go d.now.left refl
    where
      go : (bs : List ℕ) → d.now.left ≡ bs
          → BookPhase (record { service = v.service; since = none ∷ v.since }) (record { now = recover_ledger bs d.now; before = d.now; since = left_kind bs ∷ d.since })
      go [] e =
          let empty_kinds : d.since ≡ [] = no_kinds x free e in
          let empty_since : v.since ≡ [] = none_long v.since (long ∙ ap length empty_kinds) in
          emptied e empty_since empty_kinds
      go (i ∷ bs) e = restored i bs

-- ---- a cut leaves a book that is empty
pub cut_phase : {v : DriveService} {d : DriveLedger} {w : Drive} → Formatted d w → BookPhase v d → (marked : ℕ → Bool) → BookPhase (served_barrier (cut_losing marked v)) (ledger_cut marked d)
unfolding ledger_cut any
cut_phase {v} {d} r b marked = go (losing_related r marked).ledger (book_losing v marked d (not_blank_lem r) b)
  where
    go : (lossy_cut marked d).phase ≡ Down → Agrees (cut_losing marked v) (lossy_cut marked d) → BookPhase (served_barrier (cut_losing marked v)) (at_barrier (lossy_cut marked d))
    go p (not_down shift q x s) = clash (ap is_down p) q
    go p (down q e s) = book_down (record { is_down = p; empty = e; saved = s }) refl refl

-- ---- FORMAT of a blank card
format_agrees : (v : DriveService) (d : DriveLedger) → v.service.book.begun.order ≡ d.now.book.begun.order → (c n j : ℕ)
    → BookPhase (drive_served (FORMAT c n j) v) (ledger_done (FORMAT c n j) d)
unfolding drive_served ledger_done served empty_service carried_out fresh_ledger any
format_agrees v d e c n j =
    book_up
    (record {
      shift = λ i. 0;
      up = refl;
      books = rw e (empty_renamed d.now.book.begun.order (λ i. 0) (λ i. 1) (λ i. 1) (λ i. omega arith));
      low = λ i. unfold empty_book in omega arith;
      saved = refl;
      kinds = same_none;
    })
    refl

-- ---- every command
module _ (v : DriveService) {d : DriveLedger} {w : Drive} where
  up_carries : (u : DriveUp d w) → BookUp v d.now v.since d.since → any is_master_store d.since ≡ false → (k : Command) → refusal (refusals_of k d.now) ≡ 0
      → barrier_missing k d ≡ false → FewStores k w → BookPhase (drive_served k v) (ledger_done k d)
  unfolding refusals_of format_refusals next_store
  up_carries u b n (FORMAT c i j) h g r = up_21 u.up _ h
  up_carries u b n (WRITE task c i o x) h g r = write_agrees v d b n task c i o x
  up_carries u b n (CLOSE c) h g r = close_agrees v d c (ap is_running (may_close u.up c h).runs) b n
  up_carries u b n (STORE c) h g r = store_agrees v d b n c
  up_carries u b n (CHECKPOINT c) h g r = checkpoint_agrees v d b n c
  up_carries u b n (RETIRE c) h g r = retire_agrees v u b c h g (omega arith)
  up_carries u b n CUT h g r = unfold drive_served ledger_done in cut_phase (drive_up u) (book_up b n) (λ i. false)
  up_carries u b n RECOVER h g r = up_23 u.up h

  master_carries : (u : DriveMaster d w) (ns : List (Option Name)) (ks : List StoreKind) → v.since ≡ none ∷ ns → d.since ≡ master ∷ ks → BookUp v d.now ns ks
      → SameKept ks d.before d.now → (k : Command) → HasData k → refusal (refusals_of k d.now) ≡ 0 → barrier_missing k d ≡ false → BookPhase (drive_served k v) (ledger_done k d)
  unfolding refusals_of format_refusals barrier_missing
  master_carries u ns ks e f b s (FORMAT c i j) fits h g = up_21 u.up _ h
  master_carries u ns ks e f b s (WRITE task c i j x) fits h g = write_master v u ns ks e f b s task c i j x fits (unfold refusals_of in h)
  master_carries u ns ks e f b s (CLOSE c) fits h g = close_master v u ns ks e f b s c (may_close u.up c h)
  master_carries u ns ks e f b s (STORE c) fits h g = clash (master_since f) (or_none _ _ g).0
  master_carries u ns ks e f b s (CHECKPOINT c) fits h g = clash (master_since f) (or_none _ _ g).0
  master_carries u ns ks e f b s (RETIRE c) fits h g = clash (master_since f) (or_none _ _ (or_none _ _ g).0).0
  master_carries u ns ks e f b s CUT fits h g = unfold drive_served ledger_done in cut_phase (drive_master u) (book_master ns ks e f b s) (λ i. false)
  master_carries u ns ks e f b s RECOVER fits h g = up_23 u.up h

  down_carries : (x : DriveDown d w) → BookDown v d.now → any is_master_store d.since ≡ false → length v.since ≡ length d.since → (k : Command) → refusal (refusals_of k d.now) ≡ 0
      → barrier_missing k d ≡ false → FewStores k w → BookPhase (drive_served k v) (ledger_done k d)
  unfolding refusals_of format_refusals write_refusals close_refusals store_refusals checkpoint_refusals retire_refusals next_store
  down_carries x b n long (FORMAT c i j) h g r = refused_21 x.down _ h
  down_carries x b n long (WRITE task c i o y) h g r = refused_22 x.down _ h
  down_carries x b n long (CLOSE c) h g r = refused_22 x.down _ h
  down_carries x b n long (STORE c) h g r = refused_22 x.down _ h
  down_carries x b n long (CHECKPOINT c) h g r = refused_22 x.down _ h
  down_carries x b n long (RETIRE c) h g r = refused_22 x.down _ h
  down_carries x b n long CUT h g r = unfold drive_served ledger_done in cut_phase (drive_down x) (book_down b n long) (λ i. false)
  down_carries x b n long RECOVER h g r = recover_agrees v x b n long g (omega arith)

  blank_carries : DriveBlank d w → v.service.book.begun.order ≡ d.now.book.begun.order → (k : Command) → refusal (refusals_of k d.now) ≡ 0 → BookPhase (drive_served k v) (ledger_done k d)
  unfolding refusals_of write_refusals close_refusals store_refusals checkpoint_refusals retire_refusals
  blank_carries b o (FORMAT c n j) h = format_agrees v d o c n j
  blank_carries b o (WRITE task c n i x) h = not_done b.blank _ h
  blank_carries b o (CLOSE c) h = not_done b.blank _ h
  blank_carries b o (STORE c) h = not_done b.blank _ h
  blank_carries b o (CHECKPOINT c) h = not_done b.blank _ h
  blank_carries b o (RETIRE c) h = not_done b.blank _ h
  blank_carries b o CUT h = not_done b.blank _ h
  blank_carries b o RECOVER h = not_done b.blank _ h

  pub phase_carries : DriveRelated d w → BookPhase v d → (k : Command) → HasData k → refusal (refusals_of k d.now) ≡ 0 → barrier_missing k d ≡ false → FewStores k w
      → BookPhase (drive_served k v) (ledger_done k d)
  phase_carries (drive_blank x) (book_blank p o long) k fits h g r = blank_carries x o k h
  phase_carries (drive_blank x) (book_up b n) k fits h g r = clash b.up (ap (λ (l : Ledger). is_up l.phase) x.blank.ledger ∙ (unfold blank_ledger in refl))
  phase_carries (drive_blank x) (book_master ns ks e f b s) k fits h g r = clash b.up (ap (λ (l : Ledger). is_up l.phase) x.blank.ledger ∙ (unfold blank_ledger in refl))
  phase_carries (drive_blank x) (book_down b n long) k fits h g r = clash (ap is_down b.is_down) (ap (λ (l : Ledger). is_down l.phase) x.blank.ledger ∙ (unfold blank_ledger in refl))
  phase_carries (drive_formatted y) (book_blank p o long) k fits h g r = clash p (not_blank_lem y)
  phase_carries (drive_formatted (drive_up u)) (book_up b n) k fits h g r = up_carries u b n k h g r
  phase_carries (drive_formatted (drive_up u)) (book_master ns ks e f b s) k fits h g r = clash (master_since f) u.unmastered
  phase_carries (drive_formatted (drive_up u)) (book_down b n long) k fits h g r = clash (ap is_up u.up.up.ledger) (ap is_up b.is_down)
  phase_carries (drive_formatted (drive_master u)) (book_up b n) k fits h g r = clash (master_since u.is_master_lem) n
  phase_carries (drive_formatted (drive_master u)) (book_master ns ks e f b s) k fits h g r = master_carries u ns ks e f b s k fits h g
  phase_carries (drive_formatted (drive_master u)) (book_down b n long) k fits h g r = clash (master_since u.is_master_lem) n
  phase_carries (drive_formatted (drive_down x)) (book_up b n) k fits h g r = clash b.up (ap is_up x.down.ledger)
  phase_carries (drive_formatted (drive_down x)) (book_master ns ks e f b s) k fits h g r = clash (master_since f) x.unmastered
  phase_carries (drive_formatted (drive_down x)) (book_down b n long) k fits h g r = down_carries x b n long k h g r
