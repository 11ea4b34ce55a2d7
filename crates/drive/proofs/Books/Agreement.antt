-- Service book and ledger of a drive agree, from every start (`book_starts`), through every command (`book_carries`), barrier
-- (`book_barrier`) and cut (`book_cut`). So for any marks recovery of the undone disk gives the area of the book that loses those commits
-- (`losing_area`).
use Prim.Native.Nat.{ℕ, suc}
use native.Mathlib.Omega.{arith}
use mathlib.Core.Path.{◌≡◌, refl, sym, ap, ◌∙◌, fun_ext}
use mathlib.Core.Bool.{Bool, false, cond}
use mathlib.Core.List.{[], ◌++◌, flat_map}
use lib.ListN.{length}
use Rattle.model.specs.Lists.{below, any}
use Rattle.model.specs.Bytes.{Bytes}
use Rattle.model.specs.Card.{is_blank, is_down, is_up}
use Rattle.model.specs.Command.{refusal}
use Rattle.model.specs.Recovery.{recovered_area}
use Rattle.model.specs.Tape.{CHECKPOINT, CLOSE, CUT, Command, FORMAT, RECOVER, RETIRE, STORE, WRITE}
use Rattle.model.specs.Valid.{in_sequence}
use Rattle.model.specs.declared.Phase.TheVariants.{Down}
use Rattle.model.specs.declared.Shape.{Shape}
use Rattle.model.proofs.Lists.{cases}
use Rattle.model.proofs.Command.{refusal_passed}
use Rattle.crash.specs.Book.{empty_book, kept_writes, image, blank}
use Rattle.crash.specs.Service.{Service, empty_service, cut_service, book_area}
use Rattle.crash.specs.Ledger.{Ledger, blank_ledger, cut_ledger, refusals_of}
use Rattle.crash.specs.Claims.{Start, from_blank, from_down, start_ledger, start_service}
use Rattle.crash.specs.Spans.{kept_area}
use Rattle.crash.proofs.Books.Tests.{clash}
use Rattle.crash.proofs.Books.Rename.{same_image}
use Rattle.crash.proofs.Books.Agreement.{Agrees, not_down, down, start_agrees}
use Rattle.crash.proofs.Commands.CardCut.{down_gives}
use Rattle.crash.proofs.Runs.RunClaims.{HasData, start_blocks, served_blocks}
use Rattle.crash.proofs.Runs.BroughtBack.{area_target}
use Rattle.drive.specs.Since.{is_master_store}
use Rattle.drive.specs.Drive.{Drive, drive_cut}
use Rattle.drive.specs.DriveLedger.{DriveLedger, at_barrier, kind_of, barrier_missing, master_lost, cut_without, lossy_cut, ledger_after, ledger_barrier, ledger_cut, ledger_done}
use Rattle.drive.specs.DriveBook.{DriveService, cut_losing, served_barrier, drive_served}
use Rattle.drive.proofs.Steps.Related.{Formatted, DriveRelated, not_blank_lem, no_master_lost, losing_related}
use Rattle.drive.proofs.Steps.Theorem.{FewStores}
use Rattle.drive.proofs.Books.Kept.{same_none, same_long}
use Rattle.drive.proofs.Books.Steps.{BookPhase, book_blank, book_up, book_master, book_down, book_losing}
use Rattle.drive.proofs.Books.Theorem.{phase_carries, cut_phase}

-- ---- book and ledger agree: they count the same home blocks, and tell the same of the transactions
pub record BookAgrees (v : DriveService) (d : DriveLedger) : Type 0 where
  pub blocks : v.service.blocks ≡ d.now.shape.blocks
  pub phase : BookPhase v d

-- a cut leaves the shape
cut_blocks : {v : DriveService} {d : DriveLedger} (marked : ℕ → Bool) → is_blank d.now.phase ≡ false → BookAgrees v d → (cut_losing marked v).blocks ≡ (lossy_cut marked d).shape.blocks
unfolding cut_losing cut_service lossy_cut
cut_blocks {v} {d} marked not_blank_lem a = a.blocks ∙ ap (λ (s : Shape). s.blocks) (sym (shape_of (cond (master_lost marked d.since) d.before d.now) ∙ was a.phase))
  where
    shape_of : (l : Ledger) → (cut_without marked d.since l).shape ≡ l.shape
    shape_of l = unfold cut_without cut_ledger in cases (is_up l.phase) (λ h. rw h refl) (λ h. rw h refl)

    stays : any is_master_store d.since ≡ false → (cond (master_lost marked d.since) d.before d.now).shape ≡ d.now.shape
    stays n = rw (no_master_lost marked d.since n) refl

    was : BookPhase v d → (cond (master_lost marked d.since) d.before d.now).shape ≡ d.now.shape
    was (book_blank p o long) = clash p not_blank_lem
    was (book_up b n) = stays n
    was (book_master ns ks e f b s) = cases (master_lost marked d.since) (λ h. rw h s.shape) (λ h. rw h refl)
    was (book_down b n long) = stays n

-- from every start
pub book_starts : (s : Start) → BookAgrees (served_barrier (start_service in_sequence s)) (at_barrier (start_ledger in_sequence s))
book_starts s = record { blocks = start_blocks in_sequence s; phase = at s (start_agrees in_sequence s) }
  where
    at : (s : Start) → Agrees (start_service in_sequence s) (start_ledger in_sequence s) → BookPhase (served_barrier (start_service in_sequence s)) (at_barrier (start_ledger in_sequence s))
    at (from_blank x m) a = unfold start_service start_ledger empty_service blank_ledger empty_book in book_blank refl refl refl
    at (from_down y x m) (not_down shift q r w) = unfold start_ledger cut_ledger in clash refl q
    at (from_down y x m) (down q e w) = unfold any in book_down (record { is_down = unfold start_ledger cut_ledger in refl; empty = e; saved = w }) refl refl

-- BARRIER
pub book_barrier : {v : DriveService} {d : DriveLedger} → BookAgrees v d → BookAgrees (served_barrier v.service) (ledger_barrier d)
unfolding ledger_barrier any
book_barrier a = record { blocks = a.blocks; phase = unfold any in at a.phase }
  where
    at : {v : DriveService} {d : DriveLedger} → BookPhase v d → BookPhase (served_barrier v.service) (at_barrier d.now)
    at (book_blank p o long) = book_blank p o refl
    at (book_up b n) = unfold any in book_up (record { shift = b.shift; up = b.up; books = b.books; low = b.low; saved = b.saved; kinds = same_none }) refl
    at (book_master ns ks e f b s) = unfold any in book_up (record { shift = b.shift; up = b.up; books = b.books; low = b.low; saved = b.saved; kinds = same_none }) refl
    at (book_down b n long) = unfold any in book_down (record { is_down = b.is_down; empty = b.empty; saved = b.saved }) refl refl

-- a cut, whatever is marked
pub book_cut : {v : DriveService} {d : DriveLedger} {w : Drive} → Formatted d w → BookAgrees v d → (marked : ℕ → Bool) → BookAgrees (served_barrier (cut_losing marked v)) (ledger_cut marked d)
unfolding ledger_cut
book_cut r a marked = record { blocks = cut_blocks marked (not_blank_lem r) a; phase = unfold ledger_cut in cut_phase r a.phase marked }

-- as many stores are since the barrier in both
pub book_long : {v : DriveService} {d : DriveLedger} → BookAgrees v d → length v.since ≡ length d.since
book_long {v} {d} a = at a.phase
  where
    at : BookPhase v d → length v.since ≡ length d.since
    at (book_blank p o long) = long
    at (book_up b n) = same_long b.kinds
    at (book_master ns ks e f b s) = ap length e ∙ ap suc (same_long b.kinds) ∙ sym (ap length f)
    at (book_down b n long) = long

-- every command counts the same home blocks in both
done_blocks : {v : DriveService} {d : DriveLedger} → BookAgrees v d → (k : Command) → refusal (refusals_of k d.now) ≡ 0
    → (drive_served k v).service.blocks ≡ (ledger_done k d).now.shape.blocks
unfolding drive_served ledger_done ledger_after ledger_cut kind_of refusals_of
done_blocks {v} {d} a (FORMAT c b j) h = served_blocks v.service d.now a.blocks (FORMAT c b j)
done_blocks {v} {d} a (WRITE task c b o x) h = served_blocks v.service d.now a.blocks (WRITE task c b o x)
done_blocks {v} {d} a (CLOSE c) h = served_blocks v.service d.now a.blocks (CLOSE c)
done_blocks {v} {d} a (STORE c) h = served_blocks v.service d.now a.blocks (STORE c)
done_blocks {v} {d} a (CHECKPOINT c) h = served_blocks v.service d.now a.blocks (CHECKPOINT c)
done_blocks {v} {d} a CUT h = cut_blocks (λ i. false) (refusal_passed (is_blank d.now.phase) 20 [] (omega arith) h).0 a
done_blocks {v} {d} a RECOVER h = served_blocks v.service d.now a.blocks RECOVER
done_blocks {v} {d} a (RETIRE c) h = served_blocks v.service d.now a.blocks (RETIRE c)

-- every command that is carried out
pub book_carries : {v : DriveService} {d : DriveLedger} {w : Drive} → DriveRelated d w → BookAgrees v d → (k : Command) → HasData k → refusal (refusals_of k d.now) ≡ 0
    → barrier_missing k d ≡ false → FewStores k w → BookAgrees (drive_served k v) (ledger_done k d)
book_carries {v} x a k fits h g r = record { blocks = done_blocks a k h; phase = phase_carries v x a.phase k fits h g r }

module _ {v : DriveService} {d : DriveLedger} {w : Drive} (r : Formatted d w) (a : BookAgrees v d) (marked : ℕ → Bool) where
  abbrev l : Ledger
  l = lossy_cut marked d

  abbrev after : Service
  after = cut_losing marked v

  same_areas : l.phase ≡ Down → Agrees after l → kept_area l ≡ book_area after
  unfolding kept_area book_area
  same_areas p (not_down shift q x s) = clash (ap is_down p) q
  same_areas p (down q e s) =
      ap (λ (f : ℕ → Bytes). flat_map f (below l.shape.blocks)) (fun_ext (λ b. sym (same_image blank after.saved (kept_writes l.book ++ l.saved) s b)))
      ∙ ap (λ (n : ℕ). flat_map (image blank after.saved) (below n)) (sym (cut_blocks marked (not_blank_lem r) a))

  -- Whatever is marked: recovery of the undone disk gives the area of the book that loses those commits.
  pub losing_area : recovered_area (drive_cut marked w).world.disk ≡ book_area (cut_losing marked v)
  losing_area =
      let x = losing_related r marked in
      area_target x.well_formed x.disk (down_gives x) ∙ same_areas x.ledger (book_losing v marked d (not_blank_lem r) a.phase)
