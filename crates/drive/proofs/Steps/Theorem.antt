-- From every start drive and ledger agree (`starts_related`); every command that is carried out keeps it so (`carries_related`), and so do
-- BARRIER (`barrier_related`) and a cut by any marks (`cut_formatted`). At every such point a card that is down over the undone disk is
-- down by the lossy cut (`losing_related`).
use Prim.Native.Nat.{ℕ, ◌+◌, ◌≤◌, ◌<◌}
use native.Mathlib.Omega.{arith}
use mathlib.Core.Path.{◌≡◌, refl, ap, ◌∙◌}
use mathlib.Core.Bool.{Bool, false, ◌||◌}
use mathlib.Core.List.{[]}
use lib.ListN.{length}
use Rattle.model.specs.Lists.{any}
use Rattle.model.specs.Bytes.{Bytes}
use Rattle.model.specs.Card.{is_up}
use Rattle.model.specs.Command.{World, BlockStore, one_store, count_of, refusal}
use Rattle.model.specs.Step.{done_by, next_store}
use Rattle.model.specs.Write.{written}
use Rattle.model.specs.Tape.{CHECKPOINT, CLOSE, CUT, Command, FORMAT, RECOVER, RETIRE, STORE, Task, WRITE}
use Rattle.model.specs.Valid.{in_sequence}
use Rattle.model.specs.declared.Phase.TheVariants.{Up}
use Rattle.model.proofs.Lists.{or_none}
use Rattle.crash.specs.Book.{write_book}
use Rattle.crash.specs.Service.{noted}
use Rattle.crash.specs.Ledger.{Ledger, with_book, fresh_ledger, blank_ledger, carried_out, refusals_of, format_refusals, write_refusals, close_refusals, store_refusals, checkpoint_refusals, retire_refusals}
use Rattle.crash.specs.Claims.{IsBytes, Start, StartFits, start_ledger, start_world}
use Rattle.crash.proofs.Books.Tests.{clash}
use Rattle.crash.proofs.Runs.RunClaims.{HasData}
use Rattle.crash.proofs.Runs.UpSteps.{RelatedUp}
use Rattle.crash.proofs.Runs.Unrefused.{in_range_of, may_close, may_store, may_checkpoint, may_retire}
use Rattle.crash.proofs.Runs.Theorem.{Related, related_blank, related_up, related_down, related_simulation, starts, not_done, refused_21, refused_22, up_21, up_23}
use Rattle.drive.specs.Since.{is_master_store}
use Rattle.drive.specs.Drive.{Drive, drive_after, drive_barrier, drive_done}
use Rattle.drive.specs.DriveLedger.{DriveLedger, at_barrier, kind_of, home_too_early, barrier_missing, ledger_barrier, ledger_done}
use Rattle.drive.proofs.Steps.Related.{master_since, DriveBlank, DriveUp, DriveMaster, DriveDown, Formatted, drive_up, drive_master, drive_down, DriveRelated, drive_blank, drive_formatted}
use Rattle.drive.proofs.Steps.Store.{store_related}
use Rattle.drive.proofs.Steps.Checkpoint.{home_related, master_related}
use Rattle.drive.proofs.Steps.Recover.{recover_related}
use Rattle.drive.proofs.Steps.Idle.{kept_up, kept_master, close_after, close_keeps, write_after, write_keeps, up_barrier, down_barrier, barrier_formatted, cut_formatted}

-- a ledger that is up has a card that is up
as_up : {l : Ledger} {w : World} → Related l w → l.phase ≡ Up → RelatedUp l w
unfolding blank_ledger
as_up (related_blank b) h = clash (ap is_up h) (ap (λ (l : Ledger). is_up l.phase) b.ledger)
as_up (related_up u) h = u
as_up (related_down d) h = clash (ap is_up h) (ap is_up d.ledger)

-- FORMAT leaves the ledger up, WRITE its phase
format_phase : (c b j : ℕ) (l : Ledger) → (carried_out (FORMAT c b j) l).phase ≡ Up
unfolding carried_out fresh_ledger
format_phase c b j l = refl

write_phase : (task : Task) (c b o : ℕ) (v : Bytes) (l : Ledger) → (carried_out (WRITE task c b o v) l).phase ≡ l.phase
unfolding carried_out
write_phase task c b o v l = refl

-- ---- blank: FORMAT alone is carried out
module _ {d : DriveLedger} {w : Drive} (b : DriveBlank d w) where
  blank_format : (c n j : ℕ) → refusal (refusals_of (FORMAT c n j) d.now) ≡ 0 → Formatted (ledger_done (FORMAT c n j) d) (drive_done (FORMAT c n j) w)
  unfolding ledger_done drive_done drive_after next_store
  blank_format c n j h =
      let r = (related_simulation.carries d.now w.world (related_blank b.blank) (FORMAT c n j) tt h).next in
      drive_up (up_barrier _ _ w.images b.size b.bytes (as_up r (format_phase c n j d.now)))

-- ---- a card that is up
module _ {l : Ledger} {w : World} (u : RelatedUp l w) (task : Task) (c b o : ℕ) (v : Bytes) (fits : HasData (WRITE task c b o v)) (h : refusal (refusals_of (WRITE task c b o v) l) ≡ 0) where
  pub write_range : c < l.shape.cores
  unfolding refusals_of write_refusals
  write_range = (in_range_of u c _ (omega arith, (omega arith, (omega arith, (omega arith, (omega arith, (omega arith, tt)))))) (unfold refusals_of write_refusals in h)).0

  pub written_up : RelatedUp (with_book l (write_book c b o v l.book)) (written c b o v w).world
  written_up = unfold carried_out noted done_by in as_up (related_simulation.carries l w (related_up u) (WRITE task c b o v) fits h).next (write_phase task c b o v l ∙ u.up.ledger)

-- with its store no more than sixty-four are since the barrier
abbrev pub FewStores : Command → Drive → Type 0
FewStores k w = length w.since + count_of (next_store in_sequence k w.world) ≤ 64

few_stores : (k : Command) (w : Drive) {b : BlockStore} → next_store in_sequence k w.world ≡ one_store b → FewStores k w → length w.since < 64
few_stores k w e r = let n = ap count_of e in omega arith

-- after a master store every store is missing a barrier
module _ {d : DriveLedger} {w : Drive} (u : DriveMaster d w) where
  none_stored : {A : Type 0} (b : Bool) → (any is_master_store d.since || b) ≡ false → A
  none_stored b h = clash (master_since u.is_master_lem) (or_none _ b h).0

  master_carries : (k : Command) → HasData k → refusal (refusals_of k d.now) ≡ 0 → barrier_missing k d ≡ false → Formatted (ledger_done k d) (drive_done k w)
  unfolding ledger_done drive_done refusals_of format_refusals close_refusals barrier_missing kind_of next_store
  master_carries (FORMAT c n j) fits h g = up_21 u.up _ h
  master_carries (WRITE task c b o v) fits h g =
      let p = written_up u.up task c b o v fits (unfold refusals_of in h) in
      let r = write_range u.up task c b o v fits (unfold refusals_of in h) in
      drive_master (kept_master (WRITE task c b o v) refl refl (write_after u.up task c b o v r p) (write_keeps u.up task c b o v r p) u)
  master_carries (CLOSE c) fits h g =
      let m = may_close u.up c (unfold close_refusals in h) in
      drive_master (kept_master (CLOSE c) refl refl (close_after u.up c m) (close_keeps u.up c m) u)
  master_carries (STORE c) fits h g = none_stored _ g
  master_carries (CHECKPOINT c) fits h g = none_stored _ g
  master_carries (RETIRE c) fits h g = none_stored _ (or_none _ _ g).0
  master_carries CUT fits h g = cut_formatted (drive_master u) (λ i. false)
  master_carries RECOVER fits h g = up_23 u.up h

module _ {d : DriveLedger} {w : Drive} (u : DriveUp d w) where
  up_carries : (k : Command) → HasData k → refusal (refusals_of k d.now) ≡ 0 → barrier_missing k d ≡ false → FewStores k w → Formatted (ledger_done k d) (drive_done k w)
  unfolding ledger_done drive_done refusals_of format_refusals barrier_missing kind_of next_store
  up_carries (FORMAT c n j) fits h g r = up_21 u.up _ h
  up_carries (WRITE task c b o v) fits h g r =
      let p = written_up u.up task c b o v fits (unfold refusals_of in h) in
      let i = write_range u.up task c b o v fits (unfold refusals_of in h) in
      drive_up (kept_up (WRITE task c b o v) refl refl (write_after u.up task c b o v i p) (write_keeps u.up task c b o v i p) u)
  up_carries (CLOSE c) fits h g r =
      let m = may_close u.up c h in
      drive_up (kept_up (CLOSE c) refl refl (close_after u.up c m) (close_keeps u.up c m) u)
  up_carries (STORE c) fits h g r = drive_up (store_related u c (may_store u.up c h) g (few_stores (STORE c) w refl r))
  up_carries (CHECKPOINT c) fits h g r =
      let m = may_checkpoint u.up c h in
      let f = or_none (any is_master_store d.since) (home_too_early c d) (unfold barrier_missing in g) in
      drive_up (home_related u c m.0 f.1 (few_stores (CHECKPOINT c) w refl r) m.1)
  up_carries (RETIRE c) fits h g r =
      let m = may_retire u.up c h in
      let a = or_none (any is_master_store d.since || home_too_early c d) _ (unfold barrier_missing in g) in
      let f = or_none (any is_master_store d.since) _ a.0 in
      drive_master (master_related u c m.0 f.1 (few_stores (RETIRE c) w refl r) m.1 a.1)
  up_carries CUT fits h g r = cut_formatted (drive_up u) (λ i. false)
  up_carries RECOVER fits h g r = up_23 u.up h

-- ---- down
module _ {d : DriveLedger} {w : Drive} (v : DriveDown d w) where
  down_carries : (k : Command) → refusal (refusals_of k d.now) ≡ 0 → barrier_missing k d ≡ false → FewStores k w → Formatted (ledger_done k d) (drive_done k w)
  unfolding ledger_done drive_done refusals_of format_refusals write_refusals close_refusals store_refusals checkpoint_refusals retire_refusals next_store
  down_carries (FORMAT c n j) h g r = refused_21 v.down _ h
  down_carries (WRITE task c b o x) h g r = refused_22 v.down _ h
  down_carries (CLOSE c) h g r = refused_22 v.down _ h
  down_carries (STORE c) h g r = refused_22 v.down _ h
  down_carries (CHECKPOINT c) h g r = refused_22 v.down _ h
  down_carries (RETIRE c) h g r = refused_22 v.down _ h
  down_carries CUT h g r = cut_formatted (drive_down v) (λ i. false)
  down_carries RECOVER h g r = recover_related v g (few_stores RECOVER w refl r)

-- ---- blank
blank_carries : {d : DriveLedger} {w : Drive} → DriveBlank d w → (k : Command) → refusal (refusals_of k d.now) ≡ 0 → Formatted (ledger_done k d) (drive_done k w)
unfolding refusals_of write_refusals close_refusals store_refusals checkpoint_refusals retire_refusals
blank_carries b (FORMAT c n j) h = blank_format b c n j (unfold refusals_of in h)
blank_carries b (WRITE task c n o v) h = not_done b.blank _ h
blank_carries b (CLOSE c) h = not_done b.blank _ h
blank_carries b (STORE c) h = not_done b.blank _ h
blank_carries b (CHECKPOINT c) h = not_done b.blank _ h
blank_carries b (RETIRE c) h = not_done b.blank _ h
blank_carries b CUT h = not_done b.blank _ h
blank_carries b RECOVER h = not_done b.blank _ h

-- Every command that the ledger does not refuse, where no barrier is missing and there is room, leaves a formatted card on which drive and
-- ledger agree.
pub carries_related : {d : DriveLedger} {w : Drive} → DriveRelated d w → (k : Command) → HasData k → refusal (refusals_of k d.now) ≡ 0 → barrier_missing k d ≡ false → FewStores k w
    → Formatted (ledger_done k d) (drive_done k w)
carries_related (drive_blank b) k fits h g r = blank_carries b k h
carries_related (drive_formatted (drive_up u)) k fits h g r = up_carries u k fits h g r
carries_related (drive_formatted (drive_master u)) k fits h g r = master_carries u k fits h g
carries_related (drive_formatted (drive_down v)) k fits h g r = down_carries v k h g r

-- ---- the starts: nothing is since the barrier, over any third slice of 8,192 bytes
pub starts_related : (s : Start) → StartFits s → (images : Bytes) → length images ≡ 8192 → IsBytes images
    → DriveRelated (at_barrier (start_ledger in_sequence s)) (record { world = start_world s; since = []; images = images })
starts_related s fits images size bytes = go (starts s fits)
  where
    go : Related (start_ledger in_sequence s) (start_world s) → DriveRelated (at_barrier (start_ledger in_sequence s)) (record { world = start_world s; since = []; images = images })
    go (related_blank b) = drive_blank (record { blank = b; none_kinds = refl; none_places = refl; size = size; bytes = bytes })
    go (related_up u) = drive_formatted (drive_up (up_barrier (start_ledger in_sequence s) (start_world s) images size bytes u))
    go (related_down v) = drive_formatted (drive_down (down_barrier (start_ledger in_sequence s) (start_world s) images size bytes v))

-- BARRIER of any card
pub barrier_related : {d : DriveLedger} {w : Drive} → DriveRelated d w → DriveRelated (ledger_barrier d) (drive_barrier w)
unfolding ledger_barrier drive_barrier
barrier_related (drive_blank b) = drive_blank (record { blank = b.blank; none_kinds = refl; none_places = refl; size = b.size; bytes = b.bytes })
barrier_related (drive_formatted f) = unfold ledger_barrier drive_barrier in drive_formatted (barrier_formatted f)
