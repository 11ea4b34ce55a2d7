-- 40 of the card is 40 of the ledger: where drive and ledger agree and the ledger refuses nothing before, the blocks stored since the
-- barrier tell what the ledger's stores do.
use Prim.Native.Nat.{ℕ, suc, ◌+◌, ◌<◌}
use native.Mathlib.Omega.{arith}
use native.Mathlib.Decide.{dec_lt}
use mathlib.Core.Path.{◌≡◌, refl, sym, ap, ◌∙◌, subst}
use mathlib.Core.Bool.{Bool, true, false, So, not, ◌&&◌, ◌||◌}
use mathlib.Core.List.{List, [], ◌∷◌}
use lib.ListN.{length}
use lib.Dec.{eqb, leb}
use borrow.Author.Tests.{le-leb, lt-leb, eq-eqb, ne_eqb}
use Rattle.model.specs.Lists.{below, all, any}
use Rattle.model.specs.Shape.{home_block}
use Rattle.model.specs.Card.{shape_of, core_of, taken}
use Rattle.model.specs.Journal.{name_of, blocks_of}
use Rattle.model.specs.Checkpoint.{committed_of, oldest}
use Rattle.model.specs.Command.{World, refusal}
use Rattle.model.specs.Tape.{CHECKPOINT, CLOSE, CUT, Command, FORMAT, RECOVER, RETIRE, STORE, WRITE}
use Rattle.model.specs.declared.Name.{Name}
use Rattle.model.specs.declared.CommitLayout.TheVariants.{Numbers}
use Rattle.model.proofs.Lists.{cases, bool_ext, any_append, any_mem, mem_any, mem_get_or, get_or_mem, below_mem}
use Rattle.crash.specs.Book.{stage_count}
use Rattle.crash.specs.Ledger.{Ledger, refusals_of, store_refusals, checkpoint_refusals, retire_refusals}
use Rattle.crash.proofs.Books.Tests.{clash, in_any, any_in, block_equality}
use Rattle.crash.proofs.Books.Largest.{stage_of}
use Rattle.crash.proofs.Disk.ReadMaster.{shape_up, shape_read}
use Rattle.crash.proofs.Disk.ReadRecords.{ReadAsLedger}
use Rattle.crash.proofs.Disk.ReadCheckpoint.{oldest_is, oldest_name_lem}
use Rattle.crash.proofs.Commands.CardCut.{held_low}
use Rattle.crash.proofs.Commands.CardRecover.{left_read}
use Rattle.crash.proofs.Runs.UpSteps.{all_home}
use Rattle.crash.proofs.Runs.Unrefused.{may_store, may_checkpoint, may_retire, MayStore, MayCheckpoint}
use Rattle.crash.proofs.Runs.Theorem.{refused_22, not_done, up_23}
use Rattle.crash.proofs.Books.BookEntries.{uncommitted_name}
use Rattle.drive.specs.Since.{StoreKind, record_part, commit, home, master, restore, part_since, is_master_store, is_restore}
use Rattle.drive.specs.Drive.{Drive}
use Rattle.drive.specs.DriveLedger.{DriveLedger, commit_next, home_too_early, barrier_missing}
use Rattle.drive.specs.BarrierPlaces.{is_among, home_among, home_too_early_on, barrier_missing_on}
use Rattle.drive.proofs.Missing.Places.{no_master, part_among_lem, valid_among, home_among_lem}
use Rattle.drive.proofs.Steps.Checkpoint.{t, bs, m, stage, counted}
use Rattle.drive.proofs.Steps.Related.{master_since, DriveUp, DriveMaster, DriveDown, DriveRelated, drive_blank, drive_formatted, drive_up, drive_master, drive_down}

-- a test that both have, and one that is asked only where it holds
and_same : (a a' b b' : Bool) → a ≡ a' → (So a' → b ≡ b') → (a && b) ≡ (a' && b')
and_same a a' b b' e f = cases a' (λ h. rw (e, h) (f h)) (λ h. rw (e, h) refl)

-- ---- up, with no master store since the barrier
module _ {d : DriveLedger} {w : Drive} (u : DriveUp d w) where
  abbrev l : Ledger
  l = d.now

  abbrev x : World
  x = w.world

  no_zero : is_among 0 w.since ≡ any is_master_store d.since
  no_zero = no_master u.up u.between ∙ sym u.unmastered

  module _ (c : ℕ) (may : MayStore d.now c) where
    stored_is : stage_count (stage_of l.book (uncommitted_name c l.book)) ≡ (core_of x.card c).stored
    stored_is = ap stage_count ((u.up.up.cores c may.in_range_lem).stored may.some_closed).0

    blocks_are : taken (core_of x.card c).closed ≡ (l.book.entry (uncommitted_name c l.book)).blocks
    blocks_are = ((u.up.up.cores c may.in_range_lem).closing may.some_closed).blocks

    commit_same : not (leb (core_of x.card c).stored (length (taken (core_of x.card c).closed))) ≡ commit_next c l.book
    commit_same =
        let n = length (l.book.entry (uncommitted_name c l.book)).blocks in
        let k = (core_of x.card c).stored in
        rw (blocks_are, stored_is)
        (elim (dec_lt n k) [
          | yes h ↦ ap not (lt-leb k n h) ∙ sym (le-leb (n + 2) (suc k) (omega arith))
          | no h ↦ ap not (le-leb k n (omega arith)) ∙ sym (lt-leb (n + 2) (suc k) (omega arith))
        ])

    store_missing : barrier_missing_on (STORE c) w ≡ barrier_missing (STORE c) d
    unfolding barrier_missing_on barrier_missing
    store_missing =
        let n = length (l.book.entry (uncommitted_name c l.book)).blocks in
        rw no_zero
        (ap (λ (b : Bool). any is_master_store d.since || b)
        (and_same _ (commit_next c l.book) _ (part_since d.since c) commit_same
        (λ h. part_among_lem u.up u.between c may.in_range_lem may.some_closed
        (elim (dec_lt 0 (core_of x.card c).stored) [
          | yes p ↦ p
          | no p ↦ clash h (lt-leb (n + 2) (suc (stage_count (stage_of l.book (uncommitted_name c l.book)))) (omega (arith, stored_is)))
        ]))))

  module _ (c : ℕ) (may : MayCheckpoint d.now c) where
    read : ReadAsLedger Numbers l x.disk c (oldest (committed_of x c))
    read = oldest_is u.up.up c may.in_range_lem may.some_committed

    name_is : name_of (oldest (committed_of x c)) ≡ t u c may
    name_is = oldest_name_lem u.up.up c may.in_range_lem may.some_committed

    blocks_is : blocks_of (shape_of x.card) x.disk (oldest (committed_of x c)) ≡ bs u c may
    blocks_is = rw (shape_up u.up.up) (read.blocks ∙ ap (λ (n : Name). (l.book.entry n).blocks) name_is)

    too_early_same : home_too_early_on c w ≡ home_too_early c d
    unfolding home_too_early_on home_too_early
    too_early_same = rw (name_is, valid_among u.up u.between (t u c may), counted u c may) refl

    checkpoint_missing : barrier_missing_on (CHECKPOINT c) w ≡ barrier_missing (CHECKPOINT c) d
    unfolding barrier_missing_on barrier_missing
    checkpoint_missing = rw (no_zero, too_early_same) refl

    retire_missing : m u c may ≡ length (bs u c may) → barrier_missing_on (RETIRE c) w ≡ barrier_missing (RETIRE c) d
    unfolding barrier_missing_on barrier_missing
    retire_missing all = rw (no_zero, too_early_same, blocks_is, home_among_lem u.up u.between (t u c may) (m u c may) (stage u c may) all) refl

-- ---- up, with one: every store is missing a barrier
module _ {d : DriveLedger} {w : Drive} (u : DriveMaster d w) where
  zero_there : is_among 0 w.since ≡ true
  unfolding any
  zero_there = ap (is_among 0) u.last_place ∙ any_append (eqb 0) u.places (0 ∷ []) ∙ or_end (any (eqb 0) u.places)
    where
      or_end : (b : Bool) → (b || (eqb 0 0 || false)) ≡ true
      or_end true = refl
      or_end false = refl

  store_master : (c : ℕ) → barrier_missing_on (STORE c) w ≡ barrier_missing (STORE c) d
  unfolding barrier_missing_on barrier_missing
  store_master c = rw (zero_there, master_since u.is_master_lem) refl

  checkpoint_master : (c : ℕ) → barrier_missing_on (CHECKPOINT c) w ≡ barrier_missing (CHECKPOINT c) d
  unfolding barrier_missing_on barrier_missing
  checkpoint_master c = rw (zero_there, master_since u.is_master_lem) refl

  retire_master : (c : ℕ) → barrier_missing_on (RETIRE c) w ≡ barrier_missing (RETIRE c) d
  unfolding barrier_missing_on barrier_missing
  retire_master c = rw (zero_there, master_since u.is_master_lem) refl

-- ---- down
some_restore : (ks : List StoreKind) → all is_restore ks ≡ true → any is_restore ks ≡ not (eqb (length ks) 0)
unfolding all any
some_restore [] h = refl
some_restore (record_part c ∷ ks) h = clash h refl
some_restore (commit t ∷ ks) h = clash h refl
some_restore (home t ∷ ks) h = clash h refl
some_restore (master ∷ ks) h = clash h refl
some_restore (restore ∷ ks) h = sym (ap not (ne_eqb (suc (length ks)) 0 (λ e. omega arith)))

module _ {d : DriveLedger} {w : Drive} (v : DriveDown d w) where
  abbrev y : World
  y = w.world

  none_zero : is_among 0 w.since ≡ any is_master_store d.since
  none_zero =
      cases (is_among 0 w.since)
      (λ h. absurd (let j = mem_get_or (any_in block_equality 0 w.since h) 0 in let r = v.restored j.0 j.1 in let e = sym j.2 ∙ r.1 in omega arith))
      (λ h. h ∙ sym v.unmastered)

  home_there : home_among (below d.now.shape.blocks) w.since ≡ any is_restore d.since
  unfolding home_among
  home_there =
      bool_ext
      (λ q.
      let r = any_mem (λ (b : ℕ). is_among (home_block b) w.since) (below d.now.shape.blocks) q in
      let j = mem_get_or (any_in block_equality (home_block r.0) w.since r.2) 0 in
      some_restore d.since v.only ∙ ap not (ne_eqb (length d.since) 0 (λ e. omega (arith, j.1, v.count))))
      (λ q.
      let some : 0 < length w.since =
      (elim (dec_lt 0 (length w.since)) [
        | yes h ↦ h
        | no h ↦ clash q (some_restore d.since v.only ∙ ap not (eq-eqb (length d.since) 0 (omega (arith, v.count))))
      ]) in
      let r = v.restored 0 some in
      mem_any (λ (b : ℕ). is_among (home_block b) w.since) (below_mem d.now.shape.blocks r.0 (held_low d.now.shape.blocks d.now.book r.2))
      (subst (λ (p : ℕ). So (is_among p w.since)) r.1 (in_any block_equality (get_or_mem w.since 0 0 some))))

  recover_missing : barrier_missing_on RECOVER w ≡ barrier_missing RECOVER d
  unfolding barrier_missing_on barrier_missing
  recover_missing = rw (none_zero, left_read v.down, shape_read v.down.well_formed v.down.disk, home_there) refl

-- ---- 40 of the card is 40 of the ledger
pub missing_same : {d : DriveLedger} {w : Drive} → DriveRelated d w → (k : Command) → refusal (refusals_of k d.now) ≡ 0 → barrier_missing_on k w ≡ barrier_missing k d
unfolding refusals_of store_refusals checkpoint_refusals retire_refusals barrier_missing_on barrier_missing
missing_same r (FORMAT c b j) h = refl
missing_same r (WRITE task c b o v) h = refl
missing_same r (CLOSE c) h = refl
missing_same (drive_blank b) (STORE c) h = not_done b.blank _ h
missing_same (drive_formatted (drive_up u)) (STORE c) h = unfold barrier_missing_on barrier_missing in store_missing u c (may_store u.up c (unfold store_refusals in h))
missing_same (drive_formatted (drive_master u)) (STORE c) h = unfold barrier_missing_on barrier_missing in store_master u c
missing_same (drive_formatted (drive_down v)) (STORE c) h = refused_22 v.down _ h
missing_same (drive_blank b) (CHECKPOINT c) h = not_done b.blank _ h
missing_same (drive_formatted (drive_up u)) (CHECKPOINT c) h = unfold barrier_missing_on barrier_missing in checkpoint_missing u c (may_checkpoint u.up c (unfold checkpoint_refusals in h)).0
missing_same (drive_formatted (drive_master u)) (CHECKPOINT c) h = unfold barrier_missing_on barrier_missing in checkpoint_master u c
missing_same (drive_formatted (drive_down v)) (CHECKPOINT c) h = refused_22 v.down _ h
missing_same (drive_blank b) (RETIRE c) h = not_done b.blank _ h
missing_same (drive_formatted (drive_up u)) (RETIRE c) h =
    let m = may_retire u.up c (unfold retire_refusals in h) in
    unfold barrier_missing_on barrier_missing in retire_missing u c m.0 (all_home u.up c m.0.in_range_lem m.0.some_committed m.0.valid m.0.none_shared m.1)
missing_same (drive_formatted (drive_master u)) (RETIRE c) h = unfold barrier_missing_on barrier_missing in retire_master u c
missing_same (drive_formatted (drive_down v)) (RETIRE c) h = refused_22 v.down _ h
missing_same r CUT h = refl
missing_same (drive_blank b) RECOVER h = not_done b.blank _ h
missing_same (drive_formatted (drive_up u)) RECOVER h = up_23 u.up h
missing_same (drive_formatted (drive_master u)) RECOVER h = up_23 u.up h
missing_same (drive_formatted (drive_down v)) RECOVER h = unfold barrier_missing_on barrier_missing in recover_missing v
