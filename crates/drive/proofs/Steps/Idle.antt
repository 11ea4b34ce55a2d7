-- WRITE, CLOSE, BARRIER and the two cuts, which store nothing, keep drive and ledger in agreement.
use Prim.Native.Nat.{ℕ, ◌<◌}
use native.Mathlib.Omega.{arith}
use mathlib.Core.Path.{◌≡◌, refl, sym, ap, subst, ◌∙◌}
use mathlib.Core.Bool.{Bool, true}
use mathlib.Core.List.{List, []}
use mathlib.Core.Option.{none}
use lib.ListN.{length, get_or}
use Rattle.model.specs.Lists.{all, any}
use Rattle.model.specs.Bytes.{Bytes}
use Rattle.model.specs.Card.{tail_of, new_tail}
use Rattle.model.specs.Command.{World, DiskStore, no_store, with_store}
use Rattle.model.specs.Commit.{closed, closed_card}
use Rattle.model.specs.Write.{written, written_card, rule_for, takes_block, is_named_back}
use Rattle.model.specs.declared.Card.{Card}
use Rattle.model.specs.declared.Tail.{Tail}
use Rattle.model.proofs.Lists.{cases}
use Rattle.model.specs.Step.{done_by, next_store}
use Rattle.model.specs.Tape.{Command, CLOSE, Task, WRITE}
use Rattle.model.specs.Valid.{in_sequence}
use Rattle.model.specs.declared.CommitLayout.TheVariants.{Numbers}
use Rattle.model.proofs.OneStore.{done_makes}
use Rattle.crash.specs.Book.{has_running, close_book, write_book, is_running}
use Rattle.crash.specs.Service.{noted}
use Rattle.crash.specs.Ledger.{Ledger, with_book, carried_out, close_ledger}
use Rattle.crash.specs.Claims.{IsBytes}
use Rattle.crash.proofs.Disk.Relation.{DiskStands, CardDown}
use Rattle.crash.proofs.Runs.UpSteps.{RelatedUp, close_at}
use Rattle.crash.proofs.Runs.Unrefused.{MayClose}
use Rattle.drive.specs.Since.{StoreKind}
use Rattle.drive.specs.Drive.{Drive, drive_after, drive_barrier, drive_cut}
use Rattle.drive.specs.DriveLedger.{DriveLedger, at_barrier, kind_of, lossy_cut, ledger_after, ledger_barrier, ledger_cut}
use Rattle.drive.proofs.Behind.Idle.{close_idle, write_idle}
use Rattle.drive.proofs.Places.BetweenDisks.{BetweenDisks}
use Rattle.drive.proofs.Places.Idle.{between_idle, between_barrier}
use Rattle.drive.proofs.Steps.Related.{DriveUp, DriveMaster, DriveDown, Formatted, drive_up, drive_master, drive_down, losing_related}

-- ---- a command that leaves the disk and the stores since the barrier
disk_same : (k : Command) (w : World) → next_store in_sequence k w ≡ no_store → (done_by in_sequence k w).world.disk ≡ w.disk
disk_same k w e = (done_makes in_sequence k w).disk ∙ ap (λ (s : DiskStore). with_store s w.disk) e

module _ (k : Command) {d : DriveLedger} {w : Drive} (no_kind : kind_of k d.now ≡ none) (no_next : next_store in_sequence k w.world ≡ no_store)
    (up_after : RelatedUp (carried_out k d.now) (done_by in_sequence k w.world).world)
    (keeps : (ks : List StoreKind) (behind : Bytes) (places : List ℕ) (old : Bytes) → BetweenDisks d.now (tail_of w.world.card) ks behind w.world.disk places old
    → BetweenDisks (carried_out k d.now) (tail_of (done_by in_sequence k w.world).world.card) ks behind (done_by in_sequence k w.world).world.disk places old) where
  pub kept_up : DriveUp d w → DriveUp (ledger_after k d) (drive_after k w)
  unfolding ledger_after drive_after
  kept_up u =
      rw (no_kind, no_next)
      (record { up = up_after; behind = u.behind; between = keeps d.since u.behind w.since w.images u.between; unmastered = u.unmastered })

  pub kept_master : DriveMaster d w → DriveMaster (ledger_after k d) (drive_after k w)
  unfolding ledger_after drive_after
  kept_master u =
      rw (no_kind, no_next)
      (record {
        up = up_after;
        kinds = u.kinds;
        places = u.places;
        is_master_lem = u.is_master_lem;
        last_place = u.last_place;
        behind = u.behind;
        between = keeps u.kinds u.behind u.places w.images u.between;
        few = u.few;
        lost = rw (disk_same k w.world no_next) u.lost;
      })

-- ---- CLOSE
pub close_carried : (l : Ledger) (c : ℕ) → has_running l.book c ≡ true → carried_out (CLOSE c) l ≡ close_ledger c l
unfolding carried_out
close_carried l c h = rw h refl

module _ {l : Ledger} {w : World} (up : RelatedUp l w) (c : ℕ) (may : MayClose l c) where
  closed_up : RelatedUp (close_ledger c l) (closed c w).world
  closed_up = close_at up c may.in_range_lem may.runs may.none_closed

  pub close_after : RelatedUp (carried_out (CLOSE c) l) (done_by in_sequence (CLOSE c) w).world
  unfolding done_by
  close_after = subst (λ (m : Ledger). RelatedUp m (closed c w).world) (sym (close_carried l c (ap is_running may.runs))) closed_up

  close_stands : DiskStands Numbers (close_ledger c l) w.disk (tail_of w.card)
  unfolding closed closed_card tail_of
  close_stands = unfold closed closed_card tail_of in closed_up.up.disk

  pub close_keeps : (ks : List StoreKind) (behind : Bytes) (places : List ℕ) (old : Bytes) → BetweenDisks l (tail_of w.card) ks behind w.disk places old
      → BetweenDisks (carried_out (CLOSE c) l) (tail_of (done_by in_sequence (CLOSE c) w).world.card) ks behind (done_by in_sequence (CLOSE c) w).world.disk places old
  unfolding done_by closed closed_card tail_of
  close_keeps ks behind places old s = rw (close_carried l c (ap is_running may.runs)) (unfold closed closed_card tail_of in closed_between s)
    where
      closed_between : BetweenDisks l (tail_of w.card) ks behind w.disk places old → BetweenDisks (close_ledger c l) (tail_of w.card) ks behind w.disk places old
      closed_between s =
          unfold close_ledger in
          between_idle up.up.well_formed (close_book c l.book) _ _ _ closed_up.up.well_formed (close_idle l up.up.well_formed c may.runs) close_stands s

-- ---- WRITE: by what it leaves
written_tails : (x : Card) (c b : ℕ) → (written_card x c b).tails ≡ x.tails
unfolding written_card
written_tails x c b =
    cases (takes_block (rule_for x c b))
    (λ h. cases (is_named_back (rule_for x c b)) (λ g. rw (h, g) refl) (λ g. rw (h, g) refl))
    (λ h. cases (is_named_back (rule_for x c b)) (λ g. rw (h, g) refl) (λ g. rw (h, g) refl))

write_tails : (c b o : ℕ) (v : Bytes) (w : World) → tail_of (written c b o v w).world.card ≡ tail_of w.card
unfolding written tail_of
write_tails c b o v w = ap {B = ℕ → Tail} (λ (ts : List Tail) (i : ℕ). get_or ts i (new_tail 0 0)) (written_tails w.card c b)

module _ {l : Ledger} {w : World} (up : RelatedUp l w) (task : Task) (c b o : ℕ) (v : Bytes) (in_range_lem : c < l.shape.cores)
    (write_up : RelatedUp (with_book l (write_book c b o v l.book)) (written c b o v w).world) where
  write_ledger : carried_out (WRITE task c b o v) l ≡ with_book l (write_book c b o v l.book)
  unfolding carried_out noted
  write_ledger = refl

  pub write_after : RelatedUp (carried_out (WRITE task c b o v) l) (done_by in_sequence (WRITE task c b o v) w).world
  unfolding done_by
  write_after = subst (λ (m : Ledger). RelatedUp m (written c b o v w).world) (sym write_ledger) write_up

  write_stands : DiskStands Numbers (with_book l (write_book c b o v l.book)) w.disk (tail_of w.card)
  write_stands = subst (λ (ts : ℕ → Tail). DiskStands Numbers (with_book l (write_book c b o v l.book)) w.disk ts) (write_tails c b o v w) (unfold written in write_up.up.disk)

  pub write_keeps : (ks : List StoreKind) (behind : Bytes) (places : List ℕ) (old : Bytes) → BetweenDisks l (tail_of w.card) ks behind w.disk places old
      → BetweenDisks (carried_out (WRITE task c b o v) l) (tail_of (done_by in_sequence (WRITE task c b o v) w).world.card) ks behind (done_by in_sequence (WRITE task c b o v) w).world.disk places old
  unfolding done_by
  write_keeps ks behind places old s = rw (write_ledger, write_tails c b o v w) (unfold written in written_between s)
    where
      written_between : BetweenDisks l (tail_of w.card) ks behind w.disk places old → BetweenDisks (with_book l (write_book c b o v l.book)) (tail_of w.card) ks behind w.disk places old
      written_between s =
          between_idle up.up.well_formed (write_book c b o v l.book) l.closes l.stamp l.images write_up.up.well_formed
          (write_idle l up.up.well_formed c b o v (up.up.well_formed.ranks c in_range_lem).current) write_stands s

-- ---- nothing is since the barrier
module _ (l : Ledger) (w : World) (images : Bytes) (size : length images ≡ 8192) (bytes : IsBytes images) where
  pub up_barrier : RelatedUp l w → DriveUp (at_barrier l) (record { world = w; since = []; images = images })
  unfolding any
  up_barrier u =
      record { up = u; behind = w.disk; between = between_barrier u.up.well_formed u.up.disk u.inv images size bytes; unmastered = refl }

  pub down_barrier : CardDown l w → DriveDown (at_barrier l) (record { world = w; since = []; images = images })
  unfolding any all
  down_barrier v =
      record {
        down = v;
        unmastered = refl;
        only = refl;
        count = refl;
        restored = λ j h. absurd (omega arith);
        apart = λ i j a b e. absurd (omega arith);
        few = omega arith;
        size = size;
        bytes = bytes;
      }

-- the third slice
slice : {d : DriveLedger} {w : Drive} → Formatted d w → (length w.images ≡ 8192) × IsBytes w.images
slice (drive_up u) = (u.between.size, u.between.bytes)
slice (drive_master u) = (u.between.size, u.between.bytes)
slice (drive_down v) = (v.size, v.bytes)

-- ---- BARRIER: the disk is behind the barrier as it is
pub barrier_formatted : {d : DriveLedger} {w : Drive} → Formatted d w → Formatted (ledger_barrier d) (drive_barrier w)
unfolding ledger_barrier drive_barrier
barrier_formatted {d} {w} (drive_up u) = drive_up (up_barrier d.now w.world w.images u.between.size u.between.bytes u.up)
barrier_formatted {d} {w} (drive_master u) = drive_up (up_barrier d.now w.world w.images u.between.size u.between.bytes u.up)
barrier_formatted {d} {w} (drive_down v) = drive_down (down_barrier d.now w.world w.images v.size v.bytes v.down)

-- ---- CUT and CUT LOSING: whatever is marked
pub cut_formatted : {d : DriveLedger} {w : Drive} → Formatted d w → (marked : ℕ → Bool) → Formatted (ledger_cut marked d) (drive_cut marked w)
unfolding ledger_cut drive_cut
cut_formatted {d} {w} r marked =
    let i = slice r in
    drive_down (down_barrier (lossy_cut marked d) _ w.images i.0 i.1 (unfold drive_cut in losing_related r marked))
