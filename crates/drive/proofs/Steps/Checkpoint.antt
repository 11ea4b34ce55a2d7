-- CHECKPOINT and RETIRE of a drive, where no barrier is missing and fewer than sixty-four stores are since the barrier, keep drive and
-- ledger in agreement: a home store, and the master store, of one whose commit and those of all it depends on are behind the barrier.
use Prim.Native.Nat.{ℕ, suc, ◌<◌}
use native.Mathlib.Omega.{arith}
use native.Mathlib.Decide.{ℕ_discrete}
use mathlib.Core.Path.{◌≡◌, refl, sym, ap, ◌∙◌, subst}
use mathlib.Core.Logic.{inl, inr}
use mathlib.Core.Bool.{Bool, true, false, So, not, ◌&&◌}
use mathlib.Core.List.{List}
use lib.ListN.{length, get_or}
use lib.Dec.{eqb, ltb}
use borrow.Author.Tests.{lt-ltb, eq-eqb}
use Rattle.model.specs.Lists.{any}
use Rattle.model.specs.Bytes.{Bytes, block_at, store}
use Rattle.model.specs.Shape.{home_block}
use Rattle.model.specs.Layout.{master_block}
use Rattle.model.specs.Card.{same_name, tail_of, core_of, down_card}
use Rattle.model.specs.Command.{Outcome, World, one_store}
use Rattle.model.specs.Checkpoint.{checkpointed, retired_oldest, committed_of, oldest, home_store}
use Rattle.model.specs.Step.{done_by, next_store}
use Rattle.model.specs.Tape.{CHECKPOINT, RETIRE}
use Rattle.model.specs.Valid.{in_sequence}
use Rattle.model.specs.declared.Name.{Name}
use Rattle.model.specs.declared.Tail.{Tail}
use Rattle.model.specs.declared.CommitLayout.TheVariants.{Numbers}
use Rattle.model.proofs.Lists.{cases, and_left}
use Rattle.model.proofs.Store.{block_stored, length_block_at}
use Rattle.crash.specs.Book.{committed, retired, is_retired, stage_count, Book, raise, kept, checkpoint_book, retire_book}
use Rattle.crash.specs.Service.{noted}
use Rattle.crash.specs.Ledger.{Ledger, with_book, carried_out, valid_in, home_left}
use Rattle.crash.specs.Claims.{IsBytes}
use Rattle.crash.proofs.Books.Tests.{clash, in_any, block_equality}
use Rattle.crash.proofs.Books.BookEntries.{oldest_name}
use Rattle.crash.proofs.Books.BookSteps.{checkpoint_home, retire_restages}
use Rattle.crash.proofs.Books.Largest.{member_of, stage_of, valid_is_kept}
use Rattle.crash.proofs.Blocks.Invariant.{homed, homed_by}
use Rattle.crash.proofs.Disk.BlockBytes.{bytes_block_at}
use Rattle.crash.proofs.Disk.Relation.{WellFormed, CardDown}
use Rattle.crash.proofs.Disk.ReadMaster.{shape_up, master_block_lem}
use Rattle.crash.proofs.Disk.ReadRecords.{ReadAsLedger}
use Rattle.crash.proofs.Disk.ReadCheckpoint.{oldest_of, oldest_is}
use Rattle.crash.proofs.Disk.LedgerCheckpoint.{advanced}
use Rattle.crash.proofs.Disk.LedgerSteps.{well_formed_checkpoint, well_formed_retire}
use Rattle.crash.proofs.Commands.CardCheckpoint.{stage_now, e, image, image_block, home_done, card₂, master_done, own_tail, other_tail}
use Rattle.crash.proofs.Runs.UpSteps.{RelatedUp, checkpoint_at, retire_at, less_home, all_home, retired_below}
use Rattle.crash.proofs.Runs.Unrefused.{MayCheckpoint}
use Rattle.drive.specs.LostCommits.{book_without, ledger_without}
use Rattle.drive.specs.Since.{home, commit_since, home_since}
use Rattle.drive.specs.Undone.{undone}
use Rattle.drive.specs.Drive.{Drive, drive_after}
use Rattle.drive.specs.DriveLedger.{DriveLedger, home_too_early, kind_of, cut_without, ledger_after}
use Rattle.drive.proofs.Lost.Without.{well_formed_without, stage_retired}
use Rattle.drive.proofs.Lost.Mixed.{CommittedKnown, known_formed}
use Rattle.drive.proofs.Places.Home.{mem_take, between_home}
use Rattle.drive.proofs.Places.Retire.{between_retire}
use Rattle.drive.proofs.Steps.LostMaster.{between_slice, given_back}
use Rattle.drive.proofs.Steps.Related.{DriveUp, DriveMaster, up_losing}
use Rattle.drive.proofs.Steps.Store.{drive_more}

module _ {d : DriveLedger} {w : Drive} (u : DriveUp d w) (c : ℕ) (may : MayCheckpoint d.now c) where
  abbrev l : Ledger
  l = d.now

  abbrev x : World
  x = w.world

  abbrev up : RelatedUp d.now w.world
  up = u.up

  abbrev in_range_lem : c < d.now.shape.cores
  in_range_lem = may.in_range_lem

  abbrev some : d.now.book.oldest c < d.now.book.uncommitted c
  some = may.some_committed

  abbrev pub t : Name
  t = oldest_name c d.now.book

  abbrev pub bs : List ℕ
  bs = (d.now.book.entry (oldest_name c d.now.book)).blocks

  abbrev pub m : ℕ
  m = (core_of w.world.card c).homed

  abbrev since : Name → Bool
  since = commit_since d.since

  pub stage : stage_of l.book t ≡ committed m
  stage = stage_now up.up c in_range_lem some

  pub counted : stage_count (stage_of l.book t) ≡ m
  counted = ap stage_count stage

  module _ (not_early : home_too_early c d ≡ false) where
    not_too_early : (eqb (stage_count (stage_of l.book t)) 0 && not (any (same_name t) (valid_in (book_without since l.book)))) ≡ false
    not_too_early = unfold home_too_early in not_early

    -- ---- it is kept by what is behind the barrier
    formed₀ : WellFormed (ledger_without since l)
    formed₀ = well_formed_without up.up.well_formed since u.between.cached.last

    known₀ : CommittedKnown (book_without since l.book)
    known₀ = known_formed formed₀

    retired₀ : (v : Name) → So (is_retired (stage_of (book_without since l.book) v)) → So (member_of (kept (book_without since l.book)) v)
    retired₀ v h = u.between.cached.safe v (inl (sym (stage_retired since l.book v) ∙ h))

    -- before its first store
    safe_first : m ≡ 0 → So (member_of (kept (book_without since l.book)) t)
    safe_first z =
        let a : eqb (stage_count (stage_of l.book t)) 0 ≡ true = eq-eqb _ 0 (counted ∙ z) in
        let n : not (any (same_name t) (valid_in (book_without since l.book))) ≡ false = rw a at not_too_early in
        let v : any (same_name t) (valid_in (book_without since l.book)) ≡ true = cases (any (same_name t) (valid_in (book_without since l.book))) (λ h. h) (λ h. clash (rw h refl) n) in
        and_left _ _ (sym (valid_is_kept (book_without since l.book) known₀ (retired_below (ledger_without since l) formed₀) retired₀ t) ∙ v)

    -- after it
    safe_later : 0 < m → So (member_of (kept (book_without since l.book)) t)
    safe_later h =
        let s = (up.up.well_formed.ranks c in_range_lem).first some in
        let k : s.0 ≡ m = ap stage_count (sym s.1 ∙ stage) in
        let b = get_or bs 0 0 in
        let at : So (homed l b t) = ap (homed_by b bs) stage ∙ in_any block_equality (mem_take m bs 0 h (omega (arith, s.2))) in
        u.between.cached.safe t (inr (b, at))

    pub safe_t : So (member_of (kept (book_without since l.book)) t)
    safe_t = elim (ℕ_discrete m 0) [ yes z ↦ safe_first z | no n ↦ safe_later (omega arith) ]

    some_tested : ltb (l.book.oldest c) (l.book.uncommitted c) ≡ true
    some_tested = lt-ltb (l.book.oldest c) (l.book.uncommitted c) some

    -- ---- a home store
    module _ (few : length w.since < 64) (left : home_left c d.now.book ≡ true) where
      more : m < length bs
      more = less_home up c in_range_lem some may.valid may.none_shared left

      ledger_is : carried_out (CHECKPOINT c) l ≡ with_book l (checkpoint_book c l.book)
      unfolding carried_out noted
      ledger_is = rw some_tested refl

      up_after : RelatedUp (carried_out (CHECKPOINT c) l) (done_by in_sequence (CHECKPOINT c) x).world
      unfolding done_by
      up_after = subst (λ (k : Ledger). RelatedUp k (checkpointed c x).world) (sym ledger_is) (checkpoint_at up c in_range_lem some may.valid may.none_shared left)

      abbrev b : ℕ
      b = get_or (d.now.book.entry (oldest_name c d.now.book)).blocks (core_of w.world.card c).homed 0

      home_ledger : carried_out (CHECKPOINT c) l ≡ advanced l t (committed (suc m)) l.book.oldest
      home_ledger = ledger_is ∙ ap (with_book l) (checkpoint_home c m l.book stage)

      formed₂ : WellFormed (advanced l t (committed (suc m)) l.book.oldest)
      formed₂ = subst (λ (k : Book). WellFormed (with_book l k)) (checkpoint_home c m l.book stage) (well_formed_checkpoint l up.up.well_formed c in_range_lem some stage more)

      home_disk : (done_by in_sequence (CHECKPOINT c) x).world.disk ≡ store x.disk (home_block b) (image up.up c in_range_lem some more)
      unfolding done_by
      home_disk = ap (λ (o : Outcome World). o.world.disk) (home_done up.up c in_range_lem some more)

      home_tails : tail_of (done_by in_sequence (CHECKPOINT c) x).world.card ≡ tail_of x.card
      unfolding done_by tail_of
      home_tails = ap (λ (o : Outcome World). tail_of o.world.card) (home_done up.up c in_range_lem some more)

      home_next : next_store in_sequence (CHECKPOINT c) x ≡ one_store (home_store c (oldest (committed_of x c)) x)
      unfolding next_store
      home_next = refl

      home_place : (home_store c (oldest (committed_of x c)) x).place ≡ home_block b
      home_place =
          let r : ReadAsLedger Numbers l x.disk c (e up.up c in_range_lem some) = rw (oldest_of up.up c in_range_lem some) at (oldest_is up.up c in_range_lem some) in
          rw (oldest_of up.up c in_range_lem some, shape_up up.up, r.blocks) refl

      pub home_related : DriveUp (ledger_after (CHECKPOINT c) d) (drive_after (CHECKPOINT c) w)
      unfolding kind_of
      home_related =
          drive_more (CHECKPOINT c) d w up_after (home t) refl refl u.unmastered (home_store c (oldest (committed_of x c)) x) home_next (home_block b) home_place u.behind
          (rw (home_ledger, home_tails, home_disk)
          (between_home up.inv up.up.well_formed up.up.disk u.between few c in_range_lem m stage safe_t may.none_shared more (image up.up c in_range_lem some more)
          (image_block up.up c in_range_lem some more) formed₂))

    -- ---- the master store
    module _ (few : length w.since < 64) (left : home_left c d.now.book ≡ false) (none_home : home_since d.since (oldest_name c d.now.book) ≡ false) where
      all : m ≡ length bs
      all = all_home up c in_range_lem some may.valid may.none_shared left

      retire_is : carried_out (RETIRE c) l ≡ with_book l (retire_book c l.book)
      unfolding carried_out noted
      retire_is = rw some_tested refl

      up_retired : RelatedUp (carried_out (RETIRE c) l) (done_by in_sequence (RETIRE c) x).world
      unfolding done_by
      up_retired = subst (λ (k : Ledger). RelatedUp k (retired_oldest c x).world) (sym retire_is) (retire_at up c in_range_lem some may.valid may.none_shared left)

      pub master_ledger : carried_out (RETIRE c) l ≡ advanced l t retired (raise c l.book.oldest)
      master_ledger = retire_is ∙ ap (with_book l) (retire_restages c m l.book)

      pub formed₃ : WellFormed (advanced l t retired (raise c l.book.oldest))
      formed₃ = subst (λ (k : Book). WellFormed (with_book l k)) (retire_restages c m l.book) (well_formed_retire l up.up.well_formed c in_range_lem some stage)

      abbrev tails₂ : ℕ → Tail
      tails₂ = tail_of (card₂ u.up.up c may.in_range_lem may.some_committed (all_home u.up c may.in_range_lem may.some_committed may.valid may.none_shared left))

      abbrev block : Bytes
      block = master_block Numbers d.now.shape tails₂

      master_disk : (done_by in_sequence (RETIRE c) x).world.disk ≡ store x.disk 0 block
      unfolding done_by
      master_disk = ap (λ (o : Outcome World). o.world.disk) (master_done up.up c in_range_lem some all)

      master_tails : tail_of (done_by in_sequence (RETIRE c) x).world.card ≡ tails₂
      unfolding done_by
      master_tails = ap (λ (o : Outcome World). tail_of o.world.card) (master_done up.up c in_range_lem some all)

      was : length (block_at x.disk 0) ≡ 128
      was = length_block_at 257 x.disk up.up.disk.size 0 (omega arith)

      abbrev images₂ : Bytes
      images₂ = store w.images (length w.since) (block_at w.world.disk 0)

      saved : block_at images₂ (length w.since) ≡ block_at x.disk 0
      saved = block_stored w.images (length w.since) (block_at x.disk 0) (omega (arith, u.between.size)) was

      -- without the master store: as before it
      lost_master : (marked : ℕ → Bool) (k : Bytes) → length k ≡ 16384 → IsBytes k
          → CardDown (cut_without marked d.since l)
          (record { card = down_card; disk = undone marked 0 w.since images₂ (store (store x.disk 0 block) 0 (block_at images₂ (length w.since))); memory = k })
      lost_master marked k size bytes =
          let back : store (store x.disk 0 block) 0 (block_at images₂ (length w.since)) ≡ x.disk
          = ap (store (store x.disk 0 block) 0) saved
          ∙ given_back x.disk 0 block up.up.disk.size (omega arith) (master_block_lem Numbers up.up.well_formed.range tails₂).size in
          rw back (up_losing up (between_slice u.between few (block_at x.disk 0) was (bytes_block_at x.disk 0 up.up.disk.bytes)) marked k size bytes)

      pub master_related : DriveMaster (ledger_after (RETIRE c) d) (drive_after (RETIRE c) w)
      unfolding ledger_after drive_after kind_of next_store
      master_related =
          record {
            up = up_retired;
            kinds = d.since;
            places = w.since;
            is_master_lem = refl;
            last_place = refl;
            behind = store u.behind 0 block;
            between =
                rw (master_ledger, master_tails, master_disk)
                (between_slice
                (between_retire up.up.well_formed up.up.disk u.between c in_range_lem m stage safe_t none_home formed₃ tails₂
                (own_tail up.up c in_range_lem some all) (other_tail up.up c in_range_lem some all))
                few (block_at x.disk 0) was (bytes_block_at x.disk 0 up.up.disk.bytes));
            few = few;
            lost = rw (master_disk) lost_master;
          }
