-- Drive and ledger agree: the card is blank, up with no master store since the barrier, up with one as the last store, or down. Then a cut
-- that loses any of the stores since the barrier leaves a card that is down by the ledger's lossy cut.
use Prim.Native.Nat.{ℕ, ◌+◌, ◌≤◌, ◌<◌}
use native.Mathlib.Omega.{arith}
use mathlib.Core.Path.{◌≡◌, refl, sym, ap, ◌∙◌, subst}
use mathlib.Core.Logic.{inl, inr}
use mathlib.Core.Bool.{Bool, true, false, cond}
use mathlib.Core.List.{List, [], ◌∷◌, ◌++◌, Memᴰ}
use lib.ListN.{length, length-append, get_or, length-replicate}
use Rattle.model.specs.Lists.{all, any}
use Rattle.model.specs.Bytes.{Bytes, block_at, store, zero_memory}
use Rattle.model.specs.Shape.{home_block}
use Rattle.model.specs.Card.{down_card, is_blank, is_up, tail_of}
use Rattle.model.specs.Command.{World}
use Rattle.model.proofs.Lists.{cases, or_none}
use Rattle.crash.specs.Ledger.{Ledger, blocks_in, cut_ledger}
use Rattle.crash.specs.Claims.{IsBytes}
use Rattle.crash.proofs.Disk.BlockBytes.{zero_bytes}
use Rattle.crash.proofs.Disk.Relation.{CardDown}
use Rattle.crash.proofs.Commands.CardCut.{held_low}
use Rattle.crash.proofs.Runs.UpSteps.{RelatedUp}
use Rattle.crash.proofs.Runs.Theorem.{RelatedBlank}
use Rattle.drive.specs.LostCommits.{ledger_without}
use Rattle.drive.specs.Since.{StoreKind, master, is_master_store, is_restore, lost_since}
use Rattle.drive.specs.Undone.{undone}
use Rattle.drive.specs.Drive.{Drive, drive_cut}
use Rattle.drive.specs.DriveLedger.{DriveLedger, master_lost, cut_without, lossy_cut}
use Rattle.drive.proofs.Lost.Undo.{Apart, apart_more, undone_size, undone_bytes, undone_each}
use Rattle.drive.proofs.Steps.LosingDown.{losing_down}
use Rattle.drive.proofs.Places.BetweenDisks.{BetweenDisks}
use Rattle.drive.proofs.Places.Retire.{not_master}
use Rattle.drive.proofs.Steps.LostMaster.{undone_last}
use Rattle.drive.proofs.Steps.LosingUp.{losing_up}

-- ---- the relation
pub record DriveUp (d : DriveLedger) (w : Drive) : Type 0 where
  pub up : RelatedUp d.now w.world
  pub behind : Bytes
  pub between : BetweenDisks d.now (tail_of w.world.card) d.since behind w.world.disk w.since w.images
  pub unmastered : any is_master_store d.since ≡ false

-- what a cut without the last store, of the master, leaves
abbrev pub LostLast : DriveLedger → Drive → List StoreKind → List ℕ → Type 0
LostLast d w ks places =
    (marked : ℕ → Bool) (m : Bytes) → length m ≡ 16384 → IsBytes m
    → CardDown (cut_without marked ks d.before)
    (record { card = down_card; disk = undone marked 0 places w.images (store w.world.disk 0 (block_at w.images (length places))); memory = m })

pub record DriveMaster (d : DriveLedger) (w : Drive) : Type 0 where
  pub up : RelatedUp d.now w.world
  pub kinds : List StoreKind
  pub places : List ℕ
  pub is_master_lem : d.since ≡ master ∷ kinds
  pub last_place : w.since ≡ places ++ (0 ∷ [])
  pub behind : Bytes
  pub between : BetweenDisks d.now (tail_of w.world.card) kinds behind w.world.disk places w.images
  pub few : length places < 64
  pub lost : LostLast d w kinds places

-- a home block that recovery has stored since the barrier
abbrev pub Restored : Ledger → World → ℕ → Type 0
Restored l w k = (b : ℕ) × (k ≡ home_block b) × Memᴰ b (blocks_in l.shape.blocks l.book) × (b < w.card.recovered)

pub record DriveDown (d : DriveLedger) (w : Drive) : Type 0 where
  pub down : CardDown d.now w.world
  pub unmastered : any is_master_store d.since ≡ false
  pub only : all is_restore d.since ≡ true
  pub count : length w.since ≡ length d.since
  pub restored : (j : ℕ) → j < length w.since → Restored d.now w.world (get_or w.since j 0)
  pub apart : Apart w.since
  pub few : length w.since ≤ 64
  pub size : length w.images ≡ 8192
  pub bytes : IsBytes w.images

pub record DriveBlank (d : DriveLedger) (w : Drive) : Type 0 where
  pub blank : RelatedBlank d.now w.world
  pub none_kinds : d.since ≡ []
  pub none_places : w.since ≡ []
  pub size : length w.images ≡ 8192
  pub bytes : IsBytes w.images

-- a formatted card
pub data Formatted (d : DriveLedger) (w : Drive) : Type 0 where
  drive_up : DriveUp d w → Formatted d w
  drive_master : DriveMaster d w → Formatted d w
  drive_down : DriveDown d w → Formatted d w

pub data DriveRelated (d : DriveLedger) (w : Drive) : Type 0 where
  drive_blank : DriveBlank d w → DriveRelated d w
  drive_formatted : Formatted d w → DriveRelated d w

pub not_blank_lem : {d : DriveLedger} {w : Drive} → Formatted d w → is_blank d.now.phase ≡ false
not_blank_lem (drive_up u) = ap is_blank u.up.up.ledger
not_blank_lem (drive_master u) = ap is_blank u.up.up.ledger
not_blank_lem (drive_down v) = ap is_blank v.down.ledger

-- ---- the stores since the barrier: as many in the ledger as in the drive, and of blocks that are apart
pub since_long : {d : DriveLedger} {w : Drive} → DriveRelated d w → length w.since ≡ length d.since
since_long (drive_blank b) = ap length b.none_places ∙ sym (ap length b.none_kinds)
since_long (drive_formatted (drive_up u)) = u.between.count
since_long (drive_formatted (drive_master u)) =
    ap length u.last_place ∙ length-append u.places (0 ∷ []) ∙ (let e = u.between.count in omega arith) ∙ sym (ap length u.is_master_lem)
since_long (drive_formatted (drive_down v)) = v.count

pub related_apart : {d : DriveLedger} {w : Drive} → DriveRelated d w → Apart w.since
related_apart (drive_blank b) = rw b.none_places (λ i j a c e. absurd (omega arith))
related_apart (drive_formatted (drive_up u)) = u.between.apart
related_apart (drive_formatted (drive_master u)) = rw u.last_place (apart_more u.places 0 u.between.apart (λ j h. not_master (u.between.lies j h)))
related_apart (drive_formatted (drive_down v)) = v.apart

-- the last store was of the master
pub master_since : {xs ks : List StoreKind} → xs ≡ master ∷ ks → any is_master_store xs ≡ true
unfolding any
master_since e = ap (any is_master_store) e

-- ---- a cut, whatever is marked
-- where the last store is not of the master
pub no_master_lost : (marked : ℕ → Bool) (ks : List StoreKind) → any is_master_store ks ≡ false → master_lost marked ks ≡ false
unfolding master_lost any
no_master_lost marked [] h = refl
no_master_lost marked (k ∷ ks) h = rw (or_none (is_master_store k) (any is_master_store ks) h).0 refl

pub unmastered_cut : (marked : ℕ → Bool) (d : DriveLedger) → any is_master_store d.since ≡ false → lossy_cut marked d ≡ cut_without marked d.since d.now
unfolding lossy_cut
unmastered_cut marked d h = rw (no_master_lost marked d.since h) refl

-- where it is
pub master_cut : (marked : ℕ → Bool) (ks : List StoreKind) (d : DriveLedger) → d.since ≡ master ∷ ks
    → lossy_cut marked d ≡ cut_without marked ks (cond (marked (length ks)) d.before d.now)
unfolding lossy_cut master_lost cut_without
master_cut marked ks d e = rw e refl

pub up_cut : (marked : ℕ → Bool) (ks : List StoreKind) (l : Ledger) → is_up l.phase ≡ true → cut_without marked ks l ≡ cut_ledger (ledger_without (lost_since marked ks) l)
unfolding cut_without
up_cut marked ks l h = rw h refl

pub down_cut : (marked : ℕ → Bool) (ks : List StoreKind) (l : Ledger) → is_up l.phase ≡ false → cut_without marked ks l ≡ cut_ledger l
unfolding cut_without
down_cut marked ks l h = rw h refl

-- the cut of a card that is up, with the stores since the barrier
module _ {l : Ledger} {w : World} (u : RelatedUp l w) {ks : List StoreKind} {behind : Bytes} {places : List ℕ} {old : Bytes}
    (s : BetweenDisks l (tail_of w.card) ks behind w.disk places old) (marked : ℕ → Bool) (m : Bytes) (size : length m ≡ 16384) (bytes : IsBytes m) where
  pub up_losing : CardDown (cut_without marked ks l) (record { card = down_card; disk = undone marked 0 places old w.disk; memory = m })
  up_losing =
      subst (λ (x : Ledger). CardDown x (record { card = down_card; disk = undone marked 0 places old w.disk; memory = m })) (sym (up_cut marked ks l (ap is_up u.up.ledger)))
      (losing_up u.inv u.imaged u.up.well_formed u.up.disk u.homes s marked m size bytes)

module _ (d : DriveLedger) (w : Drive) (marked : ℕ → Bool) (m : Bytes) (size : length m ≡ 16384) (bytes : IsBytes m) where
  abbrev cut_world : World
  cut_world = record { card = down_card; disk = undone marked 0 w.since w.images w.world.disk; memory = m }

  losing_unmastered : DriveUp d w → CardDown (lossy_cut marked d) cut_world
  losing_unmastered u = subst (λ (x : Ledger). CardDown x cut_world) (sym (unmastered_cut marked d u.unmastered)) (up_losing u.up u.between marked m size bytes)

  losing_master : DriveMaster d w → CardDown (lossy_cut marked d) cut_world
  losing_master u =
      let n : length u.places ≡ length u.kinds = u.between.count in
      let e = ap (λ (ps : List ℕ). undone marked 0 ps w.images w.world.disk) u.last_place
      ∙ undone_last marked 0 w.images w.world.disk u.places (λ j h. not_master (u.between.lies j h)) in
      let f : lossy_cut marked d ≡ cut_without marked u.kinds (cond (marked (length u.kinds)) d.before d.now)
      = master_cut marked u.kinds d u.is_master_lem in
      subst (λ (x : Ledger). CardDown x cut_world) (sym f)
      (subst (λ (x : Bytes). CardDown (cut_without marked u.kinds (cond (marked (length u.kinds)) d.before d.now)) (record { card = down_card; disk = x; memory = m })) (sym e)
      (cases (marked (length u.kinds))
      (λ h. rw (h, ap marked n ∙ h) (u.lost marked m size bytes))
      (λ h. rw (h, ap marked n ∙ h) (up_losing u.up u.between marked m size bytes))))

  losing_restores : DriveDown d w → CardDown (lossy_cut marked d) cut_world
  losing_restores v =
      let low : (j : ℕ) → j < length w.since → get_or w.since j 0 < 257 =
      λ j h. (let r = v.restored j h in
      let b = held_low d.now.shape.blocks d.now.book r.2 in
      omega (arith, r.1, v.down.well_formed.range.few_blocks)) in
      let few : 0 + length w.since ≤ 64 = omega (arith, v.few) in
      subst (λ (x : Ledger). CardDown x cut_world)
      (sym (unmastered_cut marked d v.unmastered ∙ down_cut marked d.since d.now (ap is_up v.down.ledger)))
      (losing_down v.down (undone marked 0 w.since w.images w.world.disk)
      (undone_size marked w.images w.world.disk v.down.disk.size v.size 0 w.since few low v.apart)
      (undone_bytes marked w.images w.world.disk v.down.disk.bytes v.bytes 0 w.since)
      (λ k. elim (undone_each marked w.images w.world.disk v.down.disk.size v.size 0 w.since few low v.apart k) [
        | inl q ↦ inl q
        | inr q ↦ (let r = v.restored q.0 q.1 in inr (r.0, sym q.2 ∙ r.1, r.2))
      ])
      m size bytes)

-- Whatever is marked: a card that is down over the undone disk is down by the ledger without the lost commits, so recovery gives the area
-- of its kept writes.
pub losing_related : {d : DriveLedger} {w : Drive} → Formatted d w → (marked : ℕ → Bool) → CardDown (lossy_cut marked d) (drive_cut marked w).world
unfolding zero_memory drive_cut
losing_related {d} {w} (drive_up u) marked = losing_unmastered d w marked _ (length-replicate {A = ℕ} 16384 0) (zero_bytes 16384) u
losing_related {d} {w} (drive_master u) marked = losing_master d w marked _ (length-replicate {A = ℕ} 16384 0) (zero_bytes 16384) u
losing_related {d} {w} (drive_down v) marked = losing_restores d w marked _ (length-replicate {A = ℕ} 16384 0) (zero_bytes 16384) v
