-- Where no core runs a transaction or has one closed and uncommitted, every committed unretired one is valid. So CHECKPOINT, or RETIRE once
-- its home stores are done, of the core whose oldest one has the lowest stamp of all cores' oldest is not refused: every other closed
-- unretired one of a core has a higher stamp than its oldest.
use Rattle.model.proofs.Base.{List, [], ◌∷◌, Bool, true, false, not, refl}
use Rattle.model.proofs.Base.{ℕ, ◌≤◌, ◌<◌, arith, ℕ_discrete, ◌≡◌, ap, inl, inr, ◌≢◌, true, false, not, ◌&&◌, lt-ltb, lt-leb, any}
use mathlib.Core.Bool.{So}
use Rattle.model.specs.Card.{new_name, same_name}
use Rattle.model.specs.Command.{World, refusal}
use Rattle.model.specs.declared.Name.{Name}
use Rattle.model.proofs.Lists.{cases, and_both, and_left}
use Rattle.crash.specs.Book.{absent, has_running, is_closed, is_committed, is_retired}
use Rattle.crash.specs.Ledger.{Ledger, valid_in, shares_lower_in, checkpoint_refusals, retire_refusals, oldest_refusals, home_left}
use Rattle.crash.proofs.Books.Tests.{false_of, any_in, name_equality}
use Rattle.crash.proofs.Books.BookEntries.{oldest_name}
use Rattle.crash.proofs.Books.Largest.{stage_of, valid_largest}
use Rattle.crash.proofs.Blocks.Invariant.{committed_closed}
use Rattle.crash.proofs.Disk.Relation.{WellFormed}
use Rattle.crash.proofs.Disk.LedgerStages.{closed_present, stored_unretired, unretired_rank, quiescent_committed}
use Rattle.crash.proofs.Disk.ReadCheckpoint.{in_lower}
use Rattle.crash.proofs.Runs.UpSteps.{RelatedUp, required_there, retired_below}

-- no core runs one or has one closed and uncommitted
pub record Quiescent (l : Ledger) : Type 0 where
  pub none_running : (c : ℕ) → c < l.shape.cores → has_running l.book c ≡ false
  pub none_closed : (c : ℕ) → c < l.shape.cores → l.book.uncommitted c ≡ l.book.next c

module _ {l : Ledger} (f : WellFormed l) (q : Quiescent l) where
  present_committed : (t : Name) → (l.book.entry t).stage ≢ absent → is_committed (l.book.entry t).stage ≡ true
  present_committed t there =
      let low = (f.limits t there).core in
      quiescent_committed (f.ranks t.core low) t.number (q.none_closed t.core low) (q.none_running t.core low) there

  -- every committed unretired one is valid
  all_valid : (t : Name) → is_committed (l.book.entry t).stage ≡ true → is_retired (l.book.entry t).stage ≡ false
      → any (same_name t) (valid_in l.book) ≡ true
  all_valid t h g =
      let k = l.book in
      (valid_largest k (λ u c. f.known u (closed_present _ (committed_closed (stage_of k u) c))) (retired_below l f)).max
      (λ u. So (is_committed (stage_of k u) && not (is_retired (stage_of k u))))
      (λ u c. c)
      (λ u v c n. cases (is_retired (stage_of k v)) inr
      (λ r. inl (and_both (present_committed v (required_there l f u v (and_left _ _ c) (any_in name_equality v _ n))) (ap not r))))
      t (and_both h (ap not g))

  module _ (c : ℕ)
      (lowest : (i : ℕ) → i < l.shape.cores → l.book.oldest i < l.book.uncommitted i → l.stamp (oldest_name c l.book) ≤ l.stamp (oldest_name i l.book)) where
    -- no unretired one has a lower stamp
    pub none_lower : (v : Name) → is_closed (l.book.entry v).stage ≡ true → is_retired (l.book.entry v).stage ≡ false
        → l.stamp (oldest_name c l.book) ≤ l.stamp v
    none_lower v h g =
        let i = v.core in
        let low : i < l.shape.cores = (f.limits v (closed_present _ h)).core in
        let r = f.ranks i low in
        elim (unretired_rank r v.number h g) [
          | inr p ↦ absurd (omega (arith, p.0, p.1, q.none_closed i low))
          | inl p ↦ (let some : l.book.oldest i < l.book.uncommitted i = omega (arith, p.0, p.1) in
              let first = lowest i low some in
              let is_closed_lem = (stored_unretired r (l.book.oldest i) (omega arith) some).is_closed_lem in
              elim (ℕ_discrete (l.book.oldest i) v.number) [
                | yes e ↦ omega (arith, ap (λ (n : ℕ). l.stamp (new_name i n)) e)
                | no n ↦ omega (arith, f.ascending i (l.book.oldest i) v.number (omega (arith, p.0)) is_closed_lem h)
              ])
        ]

    none_shared : shares_lower_in l (oldest_name c l.book) ≡ false
    none_shared =
        false_of (shares_lower_in l (oldest_name c l.book))
        (λ h. let r = in_lower l (oldest_name c l.book) h in omega (arith, r.1.lower, none_lower r.0 r.1.is_closed_lem r.1.not_retired))

-- CHECKPOINT of the oldest one of lowest stamp is not refused while home stores are left, and RETIRE where none is
module _ {l : Ledger} {w : World} (u : RelatedUp l w) (q : Quiescent l) (c : ℕ) (low : c < l.shape.cores) (some : l.book.oldest c < l.book.uncommitted c)
    (lowest : (i : ℕ) → i < l.shape.cores → l.book.oldest i < l.book.uncommitted i → l.stamp (oldest_name c l.book) ≤ l.stamp (oldest_name i l.book)) where
  oldest_unrefused : (ts : List (Bool × ℕ)) → refusal ts ≡ 0 → refusal (oldest_refusals c l ts) ≡ 0
  unfolding refusal
  oldest_unrefused ts z =
      let f = u.up.well_formed in
      let x = stored_unretired (f.ranks c low) (l.book.oldest c) (omega arith) some in
      let valid = all_valid f q (oldest_name c l.book) x.is_committed_lem x.not_retired in
      rw (lt-leb l.shape.cores c low, lt-ltb _ _ some, valid, none_shared f q c lowest, u.up.ledger) z

  pub lowest_unrefused : home_left c l.book ≡ true → refusal (checkpoint_refusals c l) ≡ 0
  unfolding checkpoint_refusals refusal
  lowest_unrefused h = oldest_unrefused ((not (home_left c l.book), 35) ∷ []) (rw h refl)

  pub lowest_retires : home_left c l.book ≡ false → refusal (retire_refusals c l) ≡ 0
  unfolding retire_refusals refusal
  lowest_retires h = oldest_unrefused ((home_left c l.book, 34) ∷ []) (rw h refl)
