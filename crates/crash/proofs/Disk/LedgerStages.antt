-- Stages by themselves, and the stages of a core's transactions by their numbers (`Ranks`).
-- Tests of stages become bounds of numbers and back.
-- So what the journals hold, and what the ledger's lists hold, can be compared by numbers alone.
use Prim.Native.Nat.{ℕ, ◌≤◌, ◌<◌}
use native.Mathlib.Omega.{arith}
use native.Mathlib.Decide.{dec_lt, ℕ_discrete}
use mathlib.Core.Path.{◌≡◌, refl, sym, ap, ◌∙◌, subst}
use mathlib.Core.Logic.{◌⊎◌, inl, inr, ◌≢◌}
use mathlib.Core.Bool.{true, false}
use lib.Dec.{ltb}
use borrow.Author.Tests.{lt-ltb, le-ltb}
use Rattle.model.specs.Card.{new_name}
use Rattle.crash.specs.Book.{Stage, absent, running, closed, committed, retired, is_running, is_closed, is_committed, is_retired, Book}
use Rattle.crash.proofs.Books.Tests.{clash, impossible}
use Rattle.crash.proofs.Books.BookEntries.{by_stage, next_name, uncommitted_name}
use Rattle.crash.proofs.Disk.Relation.{first_waiting, Ranks}

pub closed_present : (g : Stage) → is_closed g ≡ true → g ≢ absent
closed_present g h e = clash h (ap is_closed e)

pub running_present : (g : Stage) → g ≡ running → g ≢ absent
running_present g p q = clash (ap is_running p) (ap is_running q)

pub running_is : (g : Stage) → is_running g ≡ true → g ≡ running
running_is = by_stage (λ g. is_running g ≡ true → g ≡ running) impossible (λ h. refl) (λ n. impossible) (λ n. impossible) impossible

pub present_open : (g : Stage) → g ≢ absent → is_closed g ≡ false → g ≡ running
present_open =
    by_stage (λ g. g ≢ absent → is_closed g ≡ false → g ≡ running) (λ ne h. absurd (ne refl)) (λ ne h. refl) (λ n ne. clash refl) (λ n ne. clash refl) (λ ne. clash refl)

pub closed_idle : (g : Stage) → is_closed g ≡ true → is_running g ≡ false
closed_idle = by_stage (λ g. is_closed g ≡ true → is_running g ≡ false) (λ h. refl) impossible (λ n h. refl) (λ n h. refl) (λ h. refl)

-- committed and not retired
pub record Unretired (g : Stage) : Type 0 where
  pub is_committed_lem : is_committed g ≡ true
  pub is_closed_lem : is_closed g ≡ true
  pub not_retired : is_retired g ≡ false

module _ {k : Book} {c : ℕ} (r : Ranks k c) (i : ℕ) where
  committed_stage : k.oldest c ≤ i → i < k.uncommitted c → (n : ℕ) × ((k.entry (new_name c i)).stage ≡ committed n)
  committed_stage a b =
      elim (ℕ_discrete (k.oldest c) i) [
        | yes e ↦ (let x = r.first (omega arith) in (x.0, subst (λ (j : ℕ). (k.entry (new_name c j)).stage ≡ committed x.0) e x.1))
        | no n ↦ (0, r.done i (omega arith) b)
      ]

  pub stored_unretired : k.oldest c ≤ i → i < k.uncommitted c → Unretired (k.entry (new_name c i)).stage
  stored_unretired a b =
      let x = committed_stage a b in
      record { is_committed_lem = ap is_committed x.1; is_closed_lem = ap is_closed x.1; not_retired = ap is_retired x.1 }

  abbrev stage : Stage
  stage = (k.entry (new_name c i)).stage

  -- where a number stands, with its stage
  by_rank : {A : Type 0} → (i < k.oldest c → (stage ≡ absent) ⊎ (stage ≡ retired) → A)
      → (k.oldest c ≤ i → i < k.uncommitted c → (n : ℕ) → stage ≡ committed n → A) → (k.uncommitted c ≤ i → i < k.next c → (n : ℕ) → stage ≡ closed n → A)
      → (i ≡ k.next c → (stage ≡ absent) ⊎ (stage ≡ running) → A) → (stage ≡ absent → A) → A
  by_rank old stored waiting current rest =
      elim (dec_lt i (k.oldest c)) [
        | yes o ↦ old o (r.below.old i o)
        | no o ↦ elim (dec_lt i (k.uncommitted c)) [
          | yes u ↦ (let x = committed_stage (omega arith) u in stored (omega arith) u x.0 x.1)
          | no u ↦ elim (dec_lt i (k.next c)) [
            | yes n ↦ (let x = r.waiting i (omega arith) n in waiting (omega arith) n x.0 x.1)
            | no n ↦ elim (ℕ_discrete i (k.next c)) [ yes e ↦ current e (rw e r.current) | no ne ↦ rest (r.rest i (omega arith)) ]
          ]
        ]
      ]

  -- an unretired closed one is stored whole, or the one that is being stored
  pub unretired_rank : is_closed stage ≡ true → is_retired stage ≡ false
      → ((k.oldest c ≤ i) × (i < k.uncommitted c)) ⊎ ((k.uncommitted c ≤ i) × (i < k.next c))
  unretired_rank h g =
      by_rank
      (λ _ o. elim o [ inl e ↦ clash h (ap is_closed e) | inr e ↦ clash (ap is_retired e) g ])
      (λ a b _ _. inl (a, b))
      (λ a b _ _. inr (a, b))
      (λ _ o. elim o [ inl e ↦ clash h (ap is_closed e) | inr e ↦ clash h (ap is_closed e) ])
      (λ e. clash h (ap is_closed e))

  pub committed_rank : is_committed stage ≡ true → is_retired stage ≡ false → (k.oldest c ≤ i) × (i < k.uncommitted c)
  committed_rank h g =
      by_rank
      (λ _ o. elim o [ inl e ↦ clash h (ap is_committed e) | inr e ↦ clash (ap is_retired e) g ])
      (λ a b _ _. (a, b))
      (λ _ _ _ e. clash h (ap is_committed e))
      (λ _ o. elim o [ inl e ↦ clash h (ap is_committed e) | inr e ↦ clash h (ap is_committed e) ])
      (λ e. clash h (ap is_committed e))

  -- only the current one runs
  pub running_next : is_running stage ≡ true → i ≡ k.next c
  running_next h =
      by_rank
      (λ _ o. elim o [ inl e ↦ clash h (ap is_running e) | inr e ↦ clash h (ap is_running e) ])
      (λ _ _ _ e. clash h (ap is_running e))
      (λ _ _ _ e. clash h (ap is_running e))
      (λ e _. e)
      (λ e. clash h (ap is_running e))

  -- where none runs and none is closed and uncommitted, an open one is committed
  pub quiescent_committed : k.uncommitted c ≡ k.next c → is_running (k.entry (next_name c k)).stage ≡ false → stage ≢ absent → is_committed stage ≡ true
  quiescent_committed none_closed none_running h =
      by_rank
      (λ _ o. elim o [ inl e ↦ absurd (h e) | inr e ↦ ap is_committed e ])
      (λ _ _ _ e. ap is_committed e)
      (λ a b _ _. absurd (omega (arith, a, b, none_closed)))
      (λ q o. elim o [ inl e ↦ absurd (h e) | inr e ↦ clash (ap is_running (subst (λ (j : ℕ). (k.entry (new_name c j)).stage ≡ running) q e)) none_running ])
      (λ e. absurd (h e))

  -- an open one lies below the oldest number exactly if it is retired
  pub below_oldest : stage ≢ absent → ltb i (k.oldest c) ≡ is_retired stage
  below_oldest h =
      by_rank
      (λ lt o. elim o [ inl e ↦ absurd (h e) | inr e ↦ lt-ltb i (k.oldest c) lt ∙ sym (ap is_retired e) ])
      (λ ge _ _ e. le-ltb i (k.oldest c) ge ∙ sym (ap is_retired e))
      (λ q _ _ e. le-ltb i (k.oldest c) (omega (arith, r.low)) ∙ sym (ap is_retired e))
      (λ q o. elim o [ inl e ↦ absurd (h e) | inr e ↦ le-ltb i (k.oldest c) (omega (arith, r.low, r.mid)) ∙ sym (ap is_retired e) ])
      (λ e. absurd (h e))

-- the one that is being stored
pub closing_stage : {k : Book} {c : ℕ} → Ranks k c → k.uncommitted c < k.next c
    → (is_closed (k.entry (uncommitted_name c k)).stage ≡ true) × (is_retired (k.entry (uncommitted_name c k)).stage ≡ false)
closing_stage r h = let x = first_waiting r h in (ap is_closed x.1, ap is_retired x.1)
