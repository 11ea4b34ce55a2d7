-- What the ledger has where CLOSE, STORE, CHECKPOINT or RETIRE meets none of its conditions; of CLOSE and STORE, that this is enough.
use Prim.Native.Nat.{ℕ, ◌<◌}
use native.Mathlib.Omega.{arith}
use mathlib.Core.Path.{◌≡◌, refl, ap}
use mathlib.Core.Bool.{Bool, true, false, not}
use mathlib.Core.List.{List, [], ◌∷◌}
use lib.Dec.{ltb}
use borrow.Author.Tests.{ltb-true, ltb-false, leb-false, lt-leb, lt-ltb, le-ltb, not-false}
use Rattle.model.specs.Lists.{any}
use Rattle.model.specs.Card.{same_name}
use Rattle.model.specs.Command.{World, refusal, Clear}
use Rattle.model.proofs.Command.{Numbered, refusal_clear}
use Rattle.crash.specs.Book.{has_running, has_closed, running, is_running}
use Rattle.crash.specs.Ledger.{Ledger, close_refusals, store_refusals, checkpoint_refusals, retire_refusals, not_up_for, valid_in, shares_lower_in, oldest_refusals, home_left}
use Rattle.crash.proofs.Books.BookEntries.{next_name, oldest_name}
use Rattle.crash.proofs.Disk.LedgerStages.{running_is}
use Rattle.crash.proofs.Runs.UpSteps.{RelatedUp}

pub record MayClose (l : Ledger) (c : ℕ) : Type 0 where
  pub in_range_lem : c < l.shape.cores
  pub runs : (l.book.entry (next_name c l.book)).stage ≡ running
  pub none_closed : l.book.uncommitted c ≡ l.book.next c

pub record MayStore (l : Ledger) (c : ℕ) : Type 0 where
  pub in_range_lem : c < l.shape.cores
  pub some_closed : l.book.uncommitted c < l.book.next c

-- what CHECKPOINT and RETIRE both ask
pub record MayCheckpoint (l : Ledger) (c : ℕ) : Type 0 where
  pub in_range_lem : c < l.shape.cores
  pub some_committed : l.book.oldest c < l.book.uncommitted c
  pub valid : any (same_name (oldest_name c l.book)) (valid_in l.book) ≡ true
  pub none_shared : shares_lower_in l (oldest_name c l.book) ≡ false

module _ {l : Ledger} {w : World} (u : RelatedUp l w) (c : ℕ) where
  -- what is known where no condition up to 5 holds
  pub in_range_of : (ts : List (Bool × ℕ)) → Numbered ts → refusal (not_up_for c l ts) ≡ 0 → (c < l.shape.cores) × Clear ts
  in_range_of ts n h =
      let z = refusal_clear (not_up_for c l ts) (omega arith, (omega arith, (omega arith, n))) h in
      (leb-false l.shape.cores c z.1.1.0, z.1.1.1)

  from_5 : (ts : List (Bool × ℕ)) → c < l.shape.cores → refusal ts ≡ 0 → refusal (not_up_for c l ts) ≡ 0
  unfolding refusal
  from_5 ts h z = rw (u.up.ledger, lt-leb l.shape.cores c h) z

  pub may_close : refusal (close_refusals c l) ≡ 0 → MayClose l c
  unfolding close_refusals
  may_close h =
      let z = in_range_of _ (omega arith, (omega arith, tt)) h in
      record {
        in_range_lem = z.0;
        runs = running_is _ (not-false _ z.1.0);
        none_closed = omega (arith, ltb-false (l.book.uncommitted c) (l.book.next c) z.1.1.0, (u.up.well_formed.ranks c z.0).mid);
      }

  pub may_store : refusal (store_refusals c l) ≡ 0 → MayStore l c
  unfolding store_refusals
  may_store h = let z = in_range_of _ (omega arith, tt) h in record { in_range_lem = z.0; some_closed = ltb-true _ _ (not-false _ z.1.0) }

  may_oldest : (ts : List (Bool × ℕ)) → Numbered ts → refusal (oldest_refusals c l ts) ≡ 0 → MayCheckpoint l c × Clear ts
  may_oldest ts n h =
      let z = in_range_of _ (omega arith, (omega arith, (omega arith, n))) h in
      (record { in_range_lem = z.0; some_committed = ltb-true _ _ (not-false _ z.1.0); valid = not-false _ z.1.1.0; none_shared = z.1.1.1.0 }, z.1.1.1.1)

  pub may_checkpoint : refusal (checkpoint_refusals c l) ≡ 0 → MayCheckpoint l c × (home_left c l.book ≡ true)
  unfolding checkpoint_refusals
  may_checkpoint h = let z = may_oldest _ (omega arith, tt) h in (z.0, not-false _ z.1.0)

  pub may_retire : refusal (retire_refusals c l) ≡ 0 → MayCheckpoint l c × (home_left c l.book ≡ false)
  unfolding retire_refusals
  may_retire h = let z = may_oldest _ (omega arith, tt) h in (z.0, z.1.0)

  pub close_unrefused : MayClose l c → refusal (close_refusals c l) ≡ 0
  unfolding close_refusals refusal
  close_unrefused m =
      let f : ltb (l.book.uncommitted c) (l.book.next c) ≡ false = le-ltb (l.book.uncommitted c) (l.book.next c) (omega (arith, m.none_closed)) in
      from_5 ((not (has_running l.book c), 28) ∷ (has_closed l.book c, 29) ∷ []) m.in_range_lem (rw (ap is_running m.runs, f) refl)

  pub store_unrefused : MayStore l c → refusal (store_refusals c l) ≡ 0
  unfolding store_refusals refusal
  store_unrefused m = from_5 ((not (has_closed l.book c), 30) ∷ []) m.in_range_lem (rw (lt-ltb (l.book.uncommitted c) (l.book.next c) m.some_closed) refl)
