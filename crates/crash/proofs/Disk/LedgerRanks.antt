-- The stages of a core's transactions stay ranked by number: where no stage of a lower number changes, and where CLOSE, STORE,
-- CHECKPOINT or RETIRE gives one transaction its next stage and raises the number, if any, that counts those past it. The numbers of all
-- cores together, which bound the count of closes.
use Rattle.model.proofs.Base.{ℕ, zero, suc, ◌+◌, ◌*◌, ◌≤◌, ◌<◌, arith, dec_lt, ℕ_discrete, ◌≡◌, refl, ap, ◌∙◌, ◌≢◌, ◌⊎◌, inl, inr}
use Rattle.model.proofs.Base.{length}
use Rattle.model.specs.Card.{new_name}
use Rattle.crash.specs.Book.{Stage, absent, running, closed, committed, retired, Book, raise, store_book}
use Rattle.crash.proofs.Books.BookEntries.{next_name, uncommitted_name, oldest_name, other_number, other_core, raise_at, raise_other}
use Rattle.crash.proofs.Books.BookSteps.{Restages, restaged, restages, store_more, store_last}
use Rattle.crash.proofs.Disk.Relation.{first_waiting, RanksBelow, Ranks, sum_next}

-- where the oldest number, the first one and all stages below stay
below_kept : (k k' : Book) (c : ℕ) → k'.oldest c ≡ k.oldest c → k'.begun.first c ≡ k.begun.first c
    → ((i : ℕ) → i < k.oldest c → (k'.entry (new_name c i)).stage ≡ (k.entry (new_name c i)).stage) → RanksBelow k c → RanksBelow k' c
below_kept k k' c o f same b =
    record {
      positive = rw o b.positive;
      from_first = rw (o, f) b.from_first;
      old = λ i h. let g : i < k.oldest c = rw o at h in rw (same i g) (b.old i g);
      all_retired = λ i a h. let g : i < k.oldest c = rw o at h in same i g ∙ b.all_retired i (rw f at a) g;
    }

module _ (k k' : Book) (c : ℕ) (r : Ranks k c) (o : k'.oldest c ≡ k.oldest c) (u : k'.uncommitted c ≡ k.uncommitted c) (n : k'.next c ≡ k.next c)
    (f : k'.begun.first c ≡ k.begun.first c)
    (stages : (i : ℕ) → i ≢ k.next c → (k'.entry (new_name c i)).stage ≡ (k.entry (new_name c i)).stage)
    (blocks : (i : ℕ) → i < k.next c → length (k'.entry (new_name c i)).blocks ≡ length (k.entry (new_name c i)).blocks)
    (current : ((k'.entry (next_name c k)).stage ≡ absent) ⊎ ((k'.entry (next_name c k)).stage ≡ running)) where
  below_next : (i : ℕ) → i < k.next c → i ≢ k.next c
  below_next i h e = omega arith

  pub ranks_kept : Ranks k' c
  ranks_kept =
      record {
        below = below_kept k k' c o f (λ i h. stages i (below_next i (omega arith))) r.below;
        low = rw (o, u) r.low;
        mid = rw (u, n) r.mid;
        top = rw n r.top;
        first = λ h.
            let g : k.oldest c < k.uncommitted c = rw (o, u) at h in
            let lt : k.oldest c < k.next c = omega arith in
            let f = r.first g in
            rw (o, stages (k.oldest c) (below_next (k.oldest c) lt), blocks (k.oldest c) lt) f;
        done = λ i h g.
            let a : k.oldest c < i = rw o at h in
            let b : i < k.uncommitted c = rw u at g in
            rw (stages i (below_next i (omega arith))) (r.done i a b);
        waiting = λ i h g.
            let a : k.uncommitted c ≤ i = rw u at h in
            let b : i < k.next c = rw n at g in
            rw (stages i (below_next i b), blocks i b) (r.waiting i a b);
        current = rw n current;
        rest = λ i h. let g : k.next c < i = rw n at h in stages i (λ e. omega arith) ∙ r.rest i g;
      }

-- ---- the count of closes
pub sum_low : (k : Book) (n : ℕ) → ((c : ℕ) → c < n → k.next c ≤ 4000000001) → sum_next k n ≤ n * 4000000001
unfolding sum_next
sum_low k zero h = omega arith
sum_low k (suc n) h = omega (arith, sum_low k n (λ c g. h c (omega arith)), h n (omega arith))

pub sum_same : (k k' : Book) → ((c : ℕ) → k'.next c ≡ k.next c) → (n : ℕ) → sum_next k' n ≡ sum_next k n
unfolding sum_next
sum_same k k' same zero = refl
sum_same k k' same (suc n) = rw (sum_same k k' same n, same n)

pub sum_raised : (k k' : Book) (c : ℕ) → k'.next ≡ raise c k.next → (n : ℕ) → sum_next k n ≤ sum_next k' n × (c < n → suc (sum_next k n) ≤ sum_next k' n)
unfolding sum_next
sum_raised k k' c e zero = (omega arith, λ h. absurd (omega arith))
sum_raised k k' c e (suc n) =
    let p = sum_raised k k' c e n in
    elim (ℕ_discrete n c) [
      | yes q ↦ (let h : k'.next n ≡ suc (k.next n) = rw (e, q) (raise_at c k.next) in (omega (arith, p.0), λ lt. omega (arith, p.0)))
      | no ne ↦ (let h : k'.next n ≡ k.next n = rw e (raise_other c k.next n ne) in (omega (arith, p.0), λ lt. let d : c < n = omega arith in omega (arith, p.1 d)))
    ]

-- ---- the ranks of the core that a command names, and of the others
module _ (k : Book) (c i : ℕ) (g : Stage) (o u n : ℕ → ℕ) where
  abbrev one : Restages k (restaged (new_name c i) g o u n k) (new_name c i) g
  one = restages (new_name c i) g o u n k

  one_other : (j : ℕ) → j ≢ i → (restaged (new_name c i) g o u n k).entry (new_name c j) ≡ k.entry (new_name c j)
  one_other j ne = one.other (new_name c j) (other_number c ne)

  one_at : (j : ℕ) → j ≡ i → ((restaged (new_name c i) g o u n k).entry (new_name c j)).stage ≡ g
  one_at j e = rw e one.stage

  pub ranks_elsewhere : (a : ℕ) → a ≢ c → o a ≡ k.oldest a → u a ≡ k.uncommitted a → n a ≡ k.next a → Ranks k a → Ranks (restaged (new_name c i) g o u n k) a
  ranks_elsewhere a ne p q s r =
      let same : (j : ℕ) → (restaged (new_name c i) g o u n k).entry (new_name a j) ≡ k.entry (new_name a j) = λ j. one.other (new_name a j) (other_core j i ne) in
      ranks_kept k (restaged (new_name c i) g o u n k) a r p q s refl (λ j h. ap (λ e. e.stage) (same j)) (λ j h. ap (λ e. length e.blocks) (same j)) (rw (same (k.next a)) r.current)

module _ (k : Book) (c : ℕ) (r : Ranks k c) where
  pub ranks_closed : k.uncommitted c ≡ k.next c → k.next c ≤ 4000000000 → Ranks (restaged (next_name c k) (closed 0) k.oldest k.uncommitted (raise c k.next) k) c
  ranks_closed idle high =
      let up = raise_at c k.next in
      let other = one_other k c (k.next c) (closed 0) k.oldest k.uncommitted (raise c k.next) in
      record {
        below = below_kept k _ c refl refl (λ i a. ap (λ e. e.stage) (other i (λ e. omega arith))) r.below;
        low = r.low;
        mid = rw up (omega arith);
        top = rw up (omega arith);
        first = λ h. rw (other (k.oldest c) (λ e. omega arith)) (r.first h);
        done = λ i h g. rw (other i (λ e. omega arith)) (r.done i h g);
        waiting =
            λ i h g.
            let d : i < suc (k.next c) = rw up at g in
            let e : i ≡ k.next c = omega arith in
            (0, one_at k c (k.next c) (closed 0) k.oldest k.uncommitted (raise c k.next) i e, omega arith);
        current = inl (rw (up, other (suc (k.next c)) (λ e. omega arith)) (r.rest (suc (k.next c)) (omega arith)));
        rest = λ i h. let g : suc (k.next c) < i = rw up at h in rw (other i (λ e. omega arith)) (r.rest i (omega arith));
      }

  module _ (n : ℕ) (due : k.uncommitted c < k.next c) where
    pub ranks_stored : n < length (k.entry (uncommitted_name c k)).blocks + 1 → Ranks (restaged (uncommitted_name c k) (closed (suc n)) k.oldest k.uncommitted k.next k) c
    ranks_stored more =
        let step = restages (uncommitted_name c k) (closed (suc n)) k.oldest k.uncommitted k.next k in
        let other = one_other k c (k.uncommitted c) (closed (suc n)) k.oldest k.uncommitted k.next in
        record {
          below = below_kept k _ c refl refl (λ i a. ap (λ e. e.stage) (other i (λ e. omega arith))) r.below;
          low = r.low;
          mid = r.mid;
          top = r.top;
          first = λ a. rw (other (k.oldest c) (λ e. omega arith)) (r.first a);
          done = λ i a b. rw (other i (λ e. omega arith)) (r.done i a b);
          waiting = λ i a b. elim (ℕ_discrete i (k.uncommitted c)) [
            | yes e ↦ rw e (suc n, step.stage, rw (step.blocks (uncommitted_name c k)) (omega arith))
            | no ne ↦ rw (other i ne) (r.waiting i a b)
          ];
          current = rw (other (k.next c) (λ e. omega arith)) r.current;
          rest = λ i a. rw (other i (λ e. omega arith)) (r.rest i a);
        }

    pub ranks_committed : Ranks (restaged (uncommitted_name c k) (committed 0) k.oldest (raise c k.uncommitted) k.next k) c
    ranks_committed =
        let up = raise_at c k.uncommitted in
        let other = one_other k c (k.uncommitted c) (committed 0) k.oldest (raise c k.uncommitted) k.next in
        let at = one_at k c (k.uncommitted c) (committed 0) k.oldest (raise c k.uncommitted) k.next in
        record {
          below = below_kept k _ c refl refl (λ i a. ap (λ e. e.stage) (other i (λ e. omega arith))) r.below;
          low = rw up (omega arith);
          mid = rw up (omega arith);
          top = r.top;
          first = λ a. elim (ℕ_discrete (k.oldest c) (k.uncommitted c)) [
            | yes e ↦ (0, at (k.oldest c) e, omega arith)
            | no ne ↦ (let b : k.oldest c < suc (k.uncommitted c) = rw up at a in rw (other (k.oldest c) ne) (r.first (omega arith)))
          ];
          done = λ i a b. elim (ℕ_discrete i (k.uncommitted c)) [
            | yes e ↦ at i e
            | no ne ↦ (let d : i < suc (k.uncommitted c) = rw up at b in rw (other i ne) (r.done i a (omega arith)))
          ];
          waiting = λ i a b. (let d : suc (k.uncommitted c) ≤ i = rw up at a in rw (other i (λ e. omega arith)) (r.waiting i (omega arith) b));
          current = rw (other (k.next c) (λ e. omega arith)) r.current;
          rest = λ i a. rw (other i (λ e. omega arith)) (r.rest i a);
        }

  module _ (n : ℕ) (due : k.oldest c < k.uncommitted c) where
    pub ranks_homed : n < length (k.entry (oldest_name c k)).blocks → Ranks (restaged (oldest_name c k) (committed (suc n)) k.oldest k.uncommitted k.next k) c
    ranks_homed more =
        let step = restages (oldest_name c k) (committed (suc n)) k.oldest k.uncommitted k.next k in
        let other = one_other k c (k.oldest c) (committed (suc n)) k.oldest k.uncommitted k.next in
        record {
          below = below_kept k _ c refl refl (λ i a. ap (λ e. e.stage) (other i (λ e. omega arith))) r.below;
          low = r.low;
          mid = r.mid;
          top = r.top;
          first = λ a. (suc n, step.stage, rw (step.blocks (oldest_name c k)) (omega arith));
          done = λ i a b. rw (other i (λ e. omega arith)) (r.done i a b);
          waiting = λ i a b. rw (other i (λ e. omega arith)) (r.waiting i a b);
          current = rw (other (k.next c) (λ e. omega arith)) r.current;
          rest = λ i a. rw (other i (λ e. omega arith)) (r.rest i a);
        }

    pub ranks_retired : Ranks (restaged (oldest_name c k) retired (raise c k.oldest) k.uncommitted k.next k) c
    ranks_retired =
        let up = raise_at c k.oldest in
        let other = one_other k c (k.oldest c) retired (raise c k.oldest) k.uncommitted k.next in
        let at = one_at k c (k.oldest c) retired (raise c k.oldest) k.uncommitted k.next in
        record {
          below =
              record {
                positive = rw up (omega (arith, r.below.positive));
                from_first = rw up (omega (arith, r.below.from_first));
                old = λ i a. elim (ℕ_discrete i (k.oldest c)) [
                  | yes e ↦ inr (at i e)
                  | no ne ↦ (let d : i < suc (k.oldest c) = rw up at a in rw (other i ne) (r.below.old i (omega arith)))
                ];
                all_retired = λ i f a. elim (ℕ_discrete i (k.oldest c)) [
                  | yes e ↦ at i e
                  | no ne ↦ (let d : i < suc (k.oldest c) = rw up at a in rw (other i ne) (r.below.all_retired i f (omega arith)))
                ];
              };
          low = rw up (omega arith);
          mid = r.mid;
          top = r.top;
          first = λ a. (let d : suc (k.oldest c) < k.uncommitted c = rw up at a in
              (0, rw (up, other (suc (k.oldest c)) (λ e. omega arith)) (r.done (suc (k.oldest c)) (omega arith) d), omega arith));
          done = λ i a b. (let d : suc (k.oldest c) < i = rw up at a in rw (other i (λ e. omega arith)) (r.done i (omega arith) b));
          waiting = λ i a b. rw (other i (λ e. omega arith)) (r.waiting i a b);
          current = rw (other (k.next c) (λ e. omega arith)) r.current;
          rest = λ i a. rw (other i (λ e. omega arith)) (r.rest i a);
        }

  -- which of the two a STORE is
  pub store_by : (P : Book → Type 0) → k.uncommitted c < k.next c
      → ((n : ℕ) → (k.entry (uncommitted_name c k)).stage ≡ closed n → n < length (k.entry (uncommitted_name c k)).blocks + 1
      → P (restaged (uncommitted_name c k) (closed (suc n)) k.oldest k.uncommitted k.next k))
      → ((n : ℕ) → (k.entry (uncommitted_name c k)).stage ≡ closed n → n ≡ length (k.entry (uncommitted_name c k)).blocks + 1
      → P (restaged (uncommitted_name c k) (committed 0) k.oldest (raise c k.uncommitted) k.next k))
      → P (store_book c k)
  store_by P due more last =
      let s = first_waiting r due in
      let bound : s.0 ≤ length (k.entry (uncommitted_name c k)).blocks + 1 = s.2 in
      elim (dec_lt s.0 (length (k.entry (uncommitted_name c k)).blocks + 1)) [
        | yes lt ↦ rw (store_more c s.0 k s.1 lt) (more s.0 s.1 lt)
        | no ge ↦ (let e : s.0 ≡ length (k.entry (uncommitted_name c k)).blocks + 1 = omega arith in rw (store_last c s.0 k s.1 e) (last s.0 s.1 e))
      ]
