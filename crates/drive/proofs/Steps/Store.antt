-- STORE of a drive, where no barrier is missing and fewer than sixty-four stores are since the barrier, keeps drive and ledger in
-- agreement.
use Prim.Native.Nat.{ℕ, suc, ◌+◌, ◌<◌}
use native.Mathlib.Omega.{arith}
use native.Mathlib.Decide.{dec_lt}
use mathlib.Core.Path.{◌≡◌, refl, sym, ap, subst}
use mathlib.Core.Bool.{true, false, ◌&&◌}
use mathlib.Core.List.{[], ◌∷◌, ◌++◌}
use mathlib.Core.Option.{some}
use lib.ListN.{length}
use borrow.Author.Tests.{lt-ltb, le-leb, lt-leb}
use Rattle.model.specs.Lists.{any}
use Rattle.model.specs.Bytes.{Bytes, block_at, store}
use Rattle.model.specs.Card.{tail_of, core_of}
use Rattle.model.specs.Command.{World, BlockStore, one_store}
use Rattle.model.specs.Commit.{stored, next_position, record_store}
use Rattle.model.specs.Step.{done_by, next_store}
use Rattle.model.specs.Tape.{Command, STORE}
use Rattle.model.specs.Valid.{in_sequence}
use Rattle.model.proofs.Lists.{or_none}
use Rattle.crash.specs.Book.{stage_count, store_book}
use Rattle.crash.specs.Service.{noted}
use Rattle.crash.specs.Ledger.{Ledger, with_book, carried_out}
use Rattle.crash.proofs.Disk.Relation.{contents}
use Rattle.crash.proofs.Disk.ReadMaster.{shape_up}
use Rattle.crash.proofs.Disk.LedgerSteps.{well_formed_store}
use Rattle.crash.proofs.Commands.CardStore.{at, b, stage_now, length_contents, stored_disk}
use Rattle.crash.proofs.Runs.UpSteps.{RelatedUp, store_at}
use Rattle.crash.proofs.Runs.Unrefused.{MayStore}
use Rattle.crash.proofs.Books.BookEntries.{uncommitted_name}
use Rattle.drive.specs.Since.{StoreKind, record_part, commit, part_since, is_master_store}
use Rattle.drive.specs.Drive.{Drive, drive_after}
use Rattle.drive.specs.DriveLedger.{DriveLedger, commit_next, kind_of, barrier_missing, ledger_after}
use Rattle.drive.proofs.Places.BetweenDisks.{BetweenDisks}
use Rattle.drive.proofs.Places.Store.{between_part, between_commit}
use Rattle.drive.proofs.Steps.Related.{DriveUp}

-- ---- one store more that is none of the master
pub drive_more : (k : Command) (d : DriveLedger) (w : Drive) → RelatedUp (carried_out k d.now) (done_by in_sequence k w.world).world → (kind : StoreKind) → kind_of k d.now ≡ some kind
    → is_master_store kind ≡ false → any is_master_store d.since ≡ false → (b : BlockStore) → next_store in_sequence k w.world ≡ one_store b → (p : ℕ) → b.place ≡ p → (behind : Bytes)
    → BetweenDisks (carried_out k d.now) (tail_of (done_by in_sequence k w.world).world.card) (kind ∷ d.since) behind (done_by in_sequence k w.world).world.disk (w.since ++ (p ∷ []))
    (store w.images (length w.since) (block_at w.world.disk p))
    → DriveUp (ledger_after k d) (drive_after k w)
unfolding ledger_after drive_after any
drive_more k d w up kind e n h b next p q behind s =
    rw (e, next)
    (record {
      up = up;
      behind = behind;
      between = rw q s;
      unmastered = rw n h;
    })

module _ {d : DriveLedger} {w : Drive} (u : DriveUp d w) (c : ℕ) (may : MayStore d.now c) (none_missing : barrier_missing (STORE c) d ≡ false) (few : length w.since < 64) where
  abbrev l : Ledger
  l = d.now

  abbrev x : World
  x = w.world

  abbrev up : RelatedUp d.now w.world
  up = u.up

  abbrev in_range_lem : c < d.now.shape.cores
  in_range_lem = may.in_range_lem

  abbrev busy : d.now.book.uncommitted c < d.now.book.next c
  busy = may.some_closed

  abbrev l₂ : Ledger
  l₂ = with_book d.now (store_book c d.now.book)

  ledger_is : carried_out (STORE c) l ≡ l₂
  unfolding carried_out noted
  ledger_is = rw (lt-ltb (l.book.uncommitted c) (l.book.next c) busy) refl

  up_after : RelatedUp (carried_out (STORE c) l) (done_by in_sequence (STORE c) x).world
  unfolding done_by
  up_after = subst (λ (m : Ledger). RelatedUp m (stored c x).world) (sym ledger_is) (store_at up c in_range_lem busy)

  tails_same : tail_of (done_by in_sequence (STORE c) x).world.card ≡ tail_of x.card
  unfolding done_by stored tail_of
  tails_same = refl

  disk_is : (done_by in_sequence (STORE c) x).world.disk ≡ store x.disk (at up.up c in_range_lem busy) (b up.up c in_range_lem busy)
  unfolding done_by
  disk_is = stored_disk up.up c in_range_lem busy

  place_is : (record_store c x).place ≡ at up.up c in_range_lem busy
  unfolding next_position
  place_is =
      let p = (tail_of x.card c).position in
      let k = core_of x.card c in
      let e : p + k.used + k.stored ≡ p + length (contents l c) = omega (arith, length_contents up.up c in_range_lem busy) in
      rw (shape_up up.up, e) refl

  abbrev count : ℕ
  count = length (d.now.book.entry (uncommitted_name c d.now.book)).blocks

  abbrev so_far : ℕ
  so_far = (core_of w.world.card c).stored

  is_counted : stage_count (l.book.entry (uncommitted_name c l.book)).stage ≡ so_far
  is_counted = ap stage_count (stage_now up.up c in_range_lem busy)

  -- no barrier is missing
  free : (any is_master_store d.since ≡ false) × ((commit_next c l.book && part_since d.since c) ≡ false)
  unfolding barrier_missing
  free = or_none _ _ none_missing

  next_is : next_store in_sequence (STORE c) x ≡ one_store (record_store c x)
  unfolding next_store
  next_is = refl

  after : (kind : StoreKind) → kind_of (STORE c) l ≡ some kind → is_master_store kind ≡ false
      → BetweenDisks l₂ (tail_of x.card) (kind ∷ d.since) u.behind (store x.disk (at up.up c in_range_lem busy) (b up.up c in_range_lem busy)) (w.since ++ (at up.up c in_range_lem busy ∷ []))
      (store w.images (length w.since) (block_at x.disk (at up.up c in_range_lem busy)))
      → DriveUp (ledger_after (STORE c) d) (drive_after (STORE c) w)
  after kind e n s =
      drive_more (STORE c) d w up_after kind e n free.0 (record_store c x) next_is (at up.up c in_range_lem busy) place_is u.behind
      (rw (ledger_is, tails_same, disk_is) s)

  pub store_related : DriveUp (ledger_after (STORE c) d) (drive_after (STORE c) w)
  unfolding kind_of
  store_related =
      elim (dec_lt count so_far) [
        | no more ↦ (let low : commit_next c l.book ≡ false = lt-leb (count + 2) (suc (stage_count (l.book.entry (uncommitted_name c l.book)).stage)) (omega (arith, is_counted)) in
            after (record_part c) (rw low refl) refl (between_part up.up c in_range_lem busy u.between few (omega arith)))
        | yes last ↦ (let high : commit_next c l.book ≡ true = le-leb (count + 2) (suc (stage_count (l.book.entry (uncommitted_name c l.book)).stage)) (omega (arith, is_counted)) in
            let none : part_since d.since c ≡ false = rw high at free.1 in
            after (commit (uncommitted_name c l.book)) (rw high refl) refl
            (between_commit up.up c in_range_lem busy u.between few last none (well_formed_store l up.up.well_formed c in_range_lem busy)))
      ]
