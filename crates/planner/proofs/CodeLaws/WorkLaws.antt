-- The work that the code finds is the one defined: of a committed transaction by its record, of a closed and of a running one by their cells.
use Rattle.model.proofs.Base.{ℕ, ◌+◌, ◌-◌, ◌≤◌, ◌<◌, arith, ◌≡◌, refl, sym, ap, ◌∙◌, Bool, true, false, not}
use Rattle.model.proofs.Base.{List, length, get_or, eq-eqb, ne_eqb, not-true, not-false}
use Rattle.model.specs.Card.{new_name, taken, tail_of, core_of}
use Rattle.model.specs.Commit.{closed_number}
use Rattle.model.specs.declared.Tail.{Tail}
use Rattle.model.specs.declared.Transaction.{Transaction}
use Rattle.model.specs.declared.Core.{Core}
use Rattle.model.specs.declared.Card.{Card}
use Rattle.journal.specs.Records.{extent_at, record_in}
use Rattle.journal.specs.declared.extents.Extent.{Extent}
use Rattle.cells.specs.Cells.{number_in, byte_in, name_cell, transaction_in, card_in, core_place, running_place, closed_place}
use Rattle.cells.proofs.ReadLaws.{next_there, stored_there, running_there, closed_there, running_live, closed_live, stamp_read}
use Rattle.std.specs.Prelude.{None, Some}
use Rattle.planner.specs.Plan.{committed_as, closed_as, running_as, runs, stores_left, stores_for}
use Rattle.planner.specs.Works.{work_of, homed_at, committed_work, closed_work, running_work}

-- ---- home stores done
pub homed_other : (k : Core) (j : ℕ) → (j ≡ 0 → ⊥) → 0 ≡ homed_at k j
unfolding homed_at
homed_other k j h = rw (ne_eqb j 0 h)

pub homed_oldest : (k : Core) (n : ℕ) → n ≡ k.homed → (j : ℕ) → j ≡ 0 → n ≡ homed_at k j
unfolding homed_at
homed_oldest k n q j z = q ∙ rw (eq-eqb j 0 z)

-- ---- committed
module _ (x : Card) (xs : List Extent) (c j i : ℕ) (n : ℕ) (e : n ≡ (extent_at xs i).count) where
  pub committed_low : (extent_at xs i).count ≤ 8 → (g m : ℕ) → m ≡ n - g → m + 1 ≤ 19
  committed_low h g m q = omega arith

  pub committed_some : (t : Tail) → t ≡ tail_of x c → (g : ℕ) → g ≡ homed_at (core_of x c) j → (k : ℕ) → k ≡ name_cell (new_name c (t.number + j)) → (m : ℕ) → m ≡ n - g
      → record { name = k; stamp = Some (extent_at xs i).stamp; stores = m + 1 } ≡ committed_work x xs c j i
  unfolding committed_work work_of committed_as record_in runs stores_left stores_for
  committed_some t u g p k q m r = rw (q, r, e, p, u) refl

-- ---- closed and running
pub closed_named : (w : List ℕ) (c : ℕ) → c < 8 → (a : ℕ) → a ≡ core_place c → (k : ℕ) → k ≡ number_in w a → (i : ℕ) → i ≡ k - 1 → (n : ℕ)
    → n ≡ name_cell (new_name c i)
    → n ≡ name_cell (new_name c (closed_number (core_of (card_in w) c)))
closed_named w c h a e k q i p n t = t ∙ ap (λ (i : ℕ). name_cell (new_name c i)) (p ∙ ap (λ (k : ℕ). k - 1) (next_there w c h a e k q))

module _ (w : List ℕ) (c : ℕ) (h : c < 8) (a : ℕ) (g : Bool) where
  module _ (q : a ≡ closed_place c) (u : g ≡ (transaction_in w a).live) where
    pub closed_none : not g ≡ true → None ≡ closed_work c (core_of (card_in w) c)
    unfolding closed_work
    closed_none z = rw (← closed_live w c h a q g u, not-true g z)

    pub closed_some : not g ≡ false → (m : ℕ) → m ≡ length (taken (transaction_in w a)) → (b : ℕ) → b ≡ core_place c → (l : ℕ) → l ≡ byte_in w (b + 2)
        → (n : ℕ) → n ≡ name_cell (new_name c (closed_number (core_of (card_in w) c))) → (o : ℕ) → o ≡ m + 1 - l
        → Some (record { name = n; stamp = Some (get_or w (a + 1) 0); stores = o + 1 + (m + 1) }) ≡ closed_work c (core_of (card_in w) c)
    unfolding closed_work work_of closed_as runs stores_left stores_for
    closed_some z m f b e l y n t o p =
        let x : Core = core_of (card_in w) c in
        let live : x.closed.live ≡ true = sym (closed_live w c h a q g u) ∙ not-false g z in
        let count : m ≡ length (taken x.closed) = f ∙ ap (λ (t : Transaction). length (taken t)) (closed_there w c h a q) in
        let stamp : get_or w (a + 1) 0 ≡ x.closed.stamp = stamp_read w a ∙ ap (λ (t : Transaction). t.stamp) (closed_there w c h a q) in
        let stored : l ≡ x.stored = stored_there w c h b e l y in
        rw (live, t, p, stamp, count, stored) refl

  module _ (q : a ≡ running_place c) (u : g ≡ (transaction_in w a).live) where
    pub running_none : not g ≡ true → None ≡ running_work c (core_of (card_in w) c)
    unfolding running_work
    running_none z = rw (← running_live w c h a q g u, not-true g z)

    pub running_some : not g ≡ false → (m : ℕ) → m ≡ length (taken (transaction_in w a)) → (b : ℕ) → b ≡ core_place c → (k : ℕ) → k ≡ number_in w b
        → (n : ℕ) → n ≡ name_cell (new_name c k)
        → Some (record { name = n; stamp = None; stores = m + 2 + (m + 1) }) ≡ running_work c (core_of (card_in w) c)
    unfolding running_work work_of running_as runs stores_left stores_for
    running_some z m f b e k v n t =
        let x : Core = core_of (card_in w) c in
        let live : x.running.live ≡ true = sym (running_live w c h a q g u) ∙ not-false g z in
        let count : m ≡ length (taken x.running) = f ∙ ap (λ (t : Transaction). length (taken t)) (running_there w c h a q) in
        let next : k ≡ x.next = next_there w c h b e k v in
        rw (live, t, count, next) refl
