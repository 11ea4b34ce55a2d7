-- A core's cells where a store is counted: the count of stores done, or the whole record counted and the transaction gone.
use Rattle.model.proofs.Base.{ℕ, ◌+◌, ◌%◌, ◌≤◌, ◌<◌, arith, ◌≡◌, sym, ap, ◌∙◌, List, length, le-leb, lt-leb}
use Rattle.model.specs.Card.{no_transaction, taken, record_size, core_of, with_core}
use Rattle.model.specs.Commit.{core_stored}
use Rattle.model.specs.declared.Transaction.{Transaction}
use Rattle.cells.specs.Cells.{transaction_in, card_in, core_place, closed_place}
use Rattle.cells.specs.declared.cores.CoreNumbers.{CoreNumbers}
use Rattle.cells.specs.Changes.{numbers_of, with_numbers, with_closed, Frame}
use Rattle.cells.proofs.FitsLaws.{frame_then, frame_wider}
use Rattle.cells.proofs.ReadLaws.{closed_there}
use Rattle.cells.proofs.CoreLaws.{core_of_with, with_core_twice, closed_put}

-- ---- a store counted
module _ (v : List ℕ) (c : ℕ) (size : length v ≡ 423) (h : c < 8) (k : CoreNumbers) (e : k ≡ numbers_of (core_of (card_in v) c)) (p : ℕ) (q : p ≡ closed_place c) (n : ℕ) (r : n ≡ length (taken (transaction_in v p))) where
  count_there : n ≡ length (taken (core_of (card_in v) c).closed)
  count_there = r ∙ ap (λ (t : Transaction). length (taken t)) (closed_there v c h p q)

  stored_now : k.stored ≡ (core_of (card_in v) c).stored
  stored_now = ap (λ (m : CoreNumbers). m.stored) e

  pub store_counted : k.stored ≤ n → (w : List ℕ) → card_in w ≡ with_core (card_in v) c (with_numbers (core_of (card_in v) c) k.next k.used (k.stored + 1) k.homed)
      → card_in w ≡ with_core (card_in v) c (core_stored (core_of (card_in v) c))
  unfolding core_stored
  store_counted z w f =
      f ∙ rw (e, le-leb (core_of (card_in v) c).stored (length (taken (core_of (card_in v) c).closed)) (omega (arith, count_there, stored_now)))

  module _ (u : List ℕ) (filled : ℕ) (s : filled ≡ (k.used + (n + 2)) % 256) (f : card_in u ≡ with_core (card_in v) c (with_numbers (core_of (card_in v) c) k.next filled 0 k.homed)) where
    pub store_committed : n < k.stored → (w : List ℕ) → transaction_in w p ≡ no_transaction → Frame u w p 19 → card_in w ≡ with_core (card_in v) c (core_stored (core_of (card_in v) c))
    unfolding core_stored record_size
    store_committed z w t g =
        let m = with_numbers (core_of (card_in v) c) k.next filled 0 k.homed in
        let y : transaction_in w (closed_place c) ≡ no_transaction = ap (transaction_in w) (sym q) ∙ t in
        let x : card_in w ≡ with_core (card_in v) c (with_closed m no_transaction) =
        closed_put u w c h (rw q at g) ∙ rw (f, y, core_of_with v c h m) (with_core_twice (card_in v) c m (with_closed m no_transaction)) in
        x ∙ rw (s, count_there, e, lt-leb (core_of (card_in v) c).stored (length (taken (core_of (card_in v) c).closed)) (omega (arith, count_there, stored_now)))

module _ (v u : List ℕ) (c : ℕ) (f : Frame v u (core_place c) 4) where
  pub counted_frame : Frame v u (core_place c) 42
  counted_frame = frame_wider v u (core_place c) 4 (core_place c) 42 f (omega arith) (omega arith)

  pub counted_long : length v ≡ 423 → length u ≡ 423
  counted_long size = f.size ∙ size

  pub committed_frame : (p : ℕ) → p ≡ closed_place c → (w : List ℕ) → Frame u w p 19 → Frame v w (core_place c) 42
  committed_frame p q w g =
      frame_then u w v (core_place c) 42 counted_frame (frame_wider u w p 19 (core_place c) 42 g (omega arith) (omega arith))
