-- RECOVER of a drive, where no barrier is missing and fewer than sixty-four stores are since the barrier, keeps drive and ledger in
-- agreement: a home store of a block that none since the barrier was of; or the master store, with none of these since the barrier.
use Prim.Native.Nat.{ℕ, ◌+◌, ◌*◌, ◌≤◌, ◌<◌}
use native.Mathlib.Omega.{arith}
use native.Mathlib.Decide.{dec_lt}
use mathlib.Core.Path.{◌≡◌, refl, sym, ap, ◌∙◌, subst}
use mathlib.Core.Logic.{◌≢◌}
use mathlib.Core.Bool.{Bool, true, false, ◌&&◌}
use mathlib.Core.List.{List, [], ◌∷◌, ◌++◌, Memᴰ}
use lib.ListN.{length, get_or, length-append, get_or-append}
use lib.Seq.{get_or_at}
use lib.Dec.{eqb, leb}
use borrow.Author.Tests.{leb-true, eq-eqb}
use Rattle.model.specs.Lists.{all, any}
use Rattle.model.specs.Bytes.{Bytes, block_at, store}
use Rattle.model.specs.Shape.{home_block}
use Rattle.model.specs.Layout.{master_block}
use Rattle.model.specs.Card.{down_card, is_up, new_tail}
use Rattle.model.specs.Command.{Outcome, World, one_store}
use Rattle.model.specs.Recovery.{recovered, layout_on, newest_image}
use Rattle.model.specs.Step.{done_by, next_store}
use Rattle.model.specs.Tape.{RECOVER}
use Rattle.model.specs.Valid.{in_sequence}
use Rattle.model.specs.declared.CommitLayout.TheVariants.{Numbers}
use Rattle.model.proofs.Select.{select_mem}
use Rattle.model.proofs.Store.{length_store, block_stored, length_block_at}
use Rattle.model.proofs.Lists.{or_none}
use Rattle.crash.specs.Book.{kept_writes}
use Rattle.crash.specs.Ledger.{Ledger, blocks_in, carried_out, recover_ledger, cut_ledger, first_number}
use Rattle.crash.specs.Claims.{IsBytes}
use Rattle.crash.proofs.Books.Tests.{clash}
use Rattle.crash.proofs.Disk.BlockBytes.{bytes_store, bytes_block_at}
use Rattle.crash.proofs.Disk.ReadMaster.{master_block_lem}
use Rattle.crash.proofs.Disk.Relation.{CardUp, CardDown, target}
use Rattle.crash.proofs.Commands.CardCut.{down_over, down_gives, held_low}
use Rattle.crash.proofs.Commands.CardRecover.{left_read, held_first, home_outcome, master_outcome, recover_home, recover_master, recovered_home}
use Rattle.crash.proofs.Runs.UpSteps.{RelatedUp, fresh_at}
use Rattle.drive.specs.Since.{StoreKind, record_part, commit, home, master, restore, is_master_store, is_restore}
use Rattle.drive.specs.Undone.{undone}
use Rattle.drive.specs.Drive.{Drive, drive_after}
use Rattle.drive.specs.DriveLedger.{DriveLedger, left_kind, kind_of, barrier_missing, cut_without, ledger_after}
use Rattle.drive.proofs.Lost.Undo.{apart_more}
use Rattle.drive.proofs.Places.Idle.{between_barrier}
use Rattle.drive.proofs.Steps.LostMaster.{given_back}
use Rattle.drive.proofs.Steps.Related.{DriveDown, DriveMaster, Formatted, drive_down, drive_master, Restored, down_cut}

-- where all are home stores of recovery and none is, there is none
none_since : (ks : List StoreKind) → all is_restore ks ≡ true → any is_restore ks ≡ false → ks ≡ []
unfolding all any
none_since [] a b = refl
none_since (record_part c ∷ ks) a b = clash a refl
none_since (commit t ∷ ks) a b = clash a refl
none_since (home t ∷ ks) a b = clash a refl
none_since (master ∷ ks) a b = clash a refl
none_since (restore ∷ ks) a b = clash refl b

pub none_long : {A : Type 0} (ps : List A) → length ps ≡ 0 → ps ≡ []
none_long [] h = refl
none_long (p ∷ ps) h = absurd (omega arith)

-- where recovery's master store comes next and no barrier is missing, nothing is since the barrier
pub no_kinds : {d : DriveLedger} {w : Drive} → DriveDown d w → barrier_missing RECOVER d ≡ false → d.now.left ≡ [] → d.since ≡ []
unfolding barrier_missing
no_kinds {d} v h e =
    let q : eqb (length d.now.left) 0 ≡ true = rw e (eq-eqb 0 0 refl) in
    none_since d.since v.only (rw q at (or_none (any is_master_store d.since) _ h).1)

module _ {d : DriveLedger} {w : Drive} (v : DriveDown d w) (none_missing : barrier_missing RECOVER d ≡ false) (few : length w.since < 64) where
  abbrev l : Ledger
  l = d.now

  abbrev x : World
  x = w.world

  free : (any is_master_store d.since ≡ false) × ((eqb (length l.left) 0 && any is_restore d.since) ≡ false)
  unfolding barrier_missing
  free = or_none _ _ none_missing

  abbrev places₂ : ℕ → List ℕ
  places₂ p = w.since ++ (p ∷ [])

  abbrev images₂ : ℕ → Bytes
  images₂ p = store w.images (length w.since) (block_at w.world.disk p)

  images_fit : 128 * length w.since + 128 ≤ length w.images
  images_fit = omega (arith, v.size)

  module _ (p : ℕ) (low : p < 257) where
    was : length (block_at x.disk p) ≡ 128
    was = length_block_at 257 x.disk v.down.disk.size p low

    images_size : length (images₂ p) ≡ 8192
    images_size = length_store w.images (length w.since) (block_at x.disk p) images_fit was ∙ v.size

    images_bytes : IsBytes (images₂ p)
    images_bytes =
        bytes_store w.images (length w.since) (block_at x.disk p) v.bytes
        (bytes_block_at x.disk p v.down.disk.bytes)

  -- ---- a home store
  module _ {b : ℕ} {bs : List ℕ} (e : l.left ≡ b ∷ bs) where
    not_passed : x.card.recovered ≤ b
    not_passed =
        leb-true _ _ (select_mem (leb x.card.recovered) (blocks_in l.shape.blocks l.book) b (subst (Memᴰ b) (sym e ∙ v.down.left) (Memᴰ.head refl))).1

    low_b : b < l.shape.blocks
    low_b = held_low l.shape.blocks l.book (held_first v.down e)

    fresh : (j : ℕ) → j < length w.since → get_or w.since j 0 ≢ home_block b
    fresh j h q = let r = v.restored j h in let z = sym r.1 ∙ q in omega (arith, r.3, not_passed)

    passed : (done_by in_sequence RECOVER x).world.card.recovered ≡ b + 1
    unfolding done_by
    passed = ap (λ (o : Outcome World). o.world.card.recovered) (home_outcome v.down e)

    restored₂ : (k : ℕ) → Restored l x k → Restored (recover_ledger (b ∷ bs) l) (done_by in_sequence RECOVER x).world k
    unfolding recover_ledger
    restored₂ k r = (r.0, r.1, r.2, rw passed (omega (arith, r.3, not_passed)))

    now_restored : Restored (recover_ledger (b ∷ bs) l) (done_by in_sequence RECOVER x).world (home_block b)
    unfolding recover_ledger
    now_restored = (b, refl, held_first v.down e, rw passed (omega arith))

    each : (j : ℕ) → j < length (places₂ (home_block b)) → Restored (recover_ledger (b ∷ bs) l) (done_by in_sequence RECOVER x).world (get_or (places₂ (home_block b)) j 0)
    each j h =
        elim (dec_lt j (length w.since)) [
          | yes lt ↦ subst (Restored (recover_ledger (b ∷ bs) l) (done_by in_sequence RECOVER x).world) (sym (get_or-append w.since (home_block b ∷ []) 0 j lt))
              (restored₂ _ (v.restored j lt))
          | no ge ↦ (let n : length w.since ≡ j = (let q = length-append w.since (home_block b ∷ []) in omega arith) in
              subst (λ (i : ℕ). Restored (recover_ledger (b ∷ bs) l) (done_by in_sequence RECOVER x).world (get_or (places₂ (home_block b)) i 0)) n
              (subst (Restored (recover_ledger (b ∷ bs) l) (done_by in_sequence RECOVER x).world) (sym (get_or_at w.since (home_block b) [] 0 (length w.since) refl)) now_restored))
        ]

    next_is : next_store in_sequence RECOVER x ≡ one_store (record { place = home_block b; bytes = newest_image in_sequence (layout_on x.disk) x.disk b })
    unfolding next_store
    next_is = rw (left_read v.down, e) refl

    restore_related : DriveDown (ledger_after RECOVER d) (drive_after RECOVER w)
    unfolding ledger_after drive_after carried_out kind_of left_kind any all done_by recover_ledger
    restore_related =
        rw (e, next_is)
        (record {
          down = recover_home v.down e;
          unmastered = v.unmastered;
          only = v.only;
          count = (let q = length-append w.since (home_block b ∷ []) in omega (arith, v.count));
          restored = unfold done_by in each;
          apart = apart_more w.since (home_block b) v.apart fresh;
          few = (let q = length-append w.since (home_block b ∷ []) in omega arith);
          size = images_size (home_block b) (omega (arith, low_b, v.down.well_formed.range.few_blocks));
          bytes = images_bytes (home_block b) (omega (arith, low_b, v.down.well_formed.range.few_blocks));
        })

  -- ---- the master store
  module _ (e : l.left ≡ []) where
    no_places : w.since ≡ []
    no_places = none_long w.since (v.count ∙ ap length (no_kinds v none_missing e))

    abbrev block : Bytes
    block = master_block Numbers d.now.shape (λ (c : ℕ). new_tail (first_number d.now c) 0)

    next_master : (bytes : Bytes) × (next_store in_sequence RECOVER x ≡ one_store (record { place = 0; bytes = bytes }))
    unfolding next_store
    next_master = rw (left_read v.down, e) (_, refl)

    up_after : RelatedUp (recover_ledger [] l) (recovered in_sequence x).world
    unfolding target
    up_after =
        let up : CardUp (recover_ledger [] l) (recovered in_sequence x).world = recover_master v.down e in
        unfold recover_ledger in fresh_at l.book.begun.order l.shape (kept_writes l.book ++ l.saved) _ (recovered in_sequence x).world up (recovered_home v.down e)

    disk_is : (recovered in_sequence x).world.disk ≡ store x.disk 0 block
    disk_is = ap (λ (o : Outcome World). o.world.disk) (master_outcome v.down e)

    saved : block_at (store w.images 0 (block_at x.disk 0)) 0 ≡ block_at x.disk 0
    saved = block_stored w.images 0 (block_at x.disk 0) (omega (arith, v.size)) (was 0 (omega arith))

    lost_master : (marked : ℕ → Bool) (k : Bytes) → length k ≡ 16384 → IsBytes k
        → CardDown (cut_without marked [] l)
        (record { card = down_card; disk = undone marked 0 [] (store w.images 0 (block_at x.disk 0)) (store (store x.disk 0 block) 0 (block_at (store w.images 0 (block_at x.disk 0)) 0)); memory = k })
    unfolding undone
    lost_master marked k size bytes =
        let back : store (store x.disk 0 block) 0 (block_at (store w.images 0 (block_at x.disk 0)) 0) ≡ x.disk
        = ap (store (store x.disk 0 block) 0) saved
        ∙ given_back x.disk 0 block v.down.disk.size (omega arith) (master_block_lem Numbers v.down.well_formed.range _).size in
        rw (back, down_cut marked [] l (ap is_up v.down.ledger)) (down_over v.down.well_formed v.down.disk (down_gives v.down) k size bytes)

    emptied_related : DriveMaster (ledger_after RECOVER d) (drive_after RECOVER w)
    unfolding ledger_after drive_after carried_out kind_of left_kind done_by recover_ledger cut_without cut_ledger
    emptied_related =
        let n : length w.since ≡ 0 = ap length no_places in
        rw (e, next_master.1)
        (record {
          up = up_after;
          kinds = [];
          places = [];
          is_master_lem = rw (no_kinds v none_missing e) refl;
          last_place = rw no_places refl;
          behind = (recovered in_sequence x).world.disk;
          between = between_barrier up_after.up.well_formed up_after.up.disk up_after.inv _ (images_size 0 (omega arith)) (images_bytes 0 (omega arith));
          few = omega arith;
          lost = rw (n, disk_is) lost_master;
        })

  pub recover_related : Formatted (ledger_after RECOVER d) (drive_after RECOVER w)
  recover_related = go l.left refl
    where
      go : (bs : List ℕ) → l.left ≡ bs → Formatted (ledger_after RECOVER d) (drive_after RECOVER w)
      go [] e = drive_master (emptied_related e)
      go (b ∷ bs) e = drive_down (restore_related e)
