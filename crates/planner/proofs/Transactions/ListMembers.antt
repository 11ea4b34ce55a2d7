-- What is in the ledger's list of unretired transactions: transactions as the ledger has them, each running, closed or committed, those that
-- do not run with a stamp of their own.
use Rattle.model.proofs.Base.{ℕ, zero, suc, ◌+◌, ◌-◌, ◌≤◌, ◌<◌, arith, dec_lt, ◌≡◌, refl, sym, ap, subst, ◌∙◌, ◌⊎◌, inl, inr}
use Rattle.model.proofs.Base.{true, false, not, [], Memᴰ, mem_not_nil, mem_cases_cons, mem_append_cases}
use Rattle.model.proofs.Base.{mem_eq_of_singleton, length, flat_map, below, all}
use Rattle.model.specs.Card.{new_name}
use Rattle.model.proofs.Lists.{cases, mem_below, mem_flat_map, mem_all}
use Rattle.crash.specs.Book.{Stage, Book, running, is_running, is_closed, is_retired, has_running}
use Rattle.crash.specs.Ledger.{Ledger}
use Rattle.crash.proofs.Books.Tests.{clash, impossible}
use Rattle.crash.proofs.Books.BookEntries.{by_stage, next_name}
use Rattle.crash.proofs.Disk.Relation.{Ranks, WellFormed}
use Rattle.crash.proofs.Disk.LedgerStages.{running_is, closed_idle, stored_unretired}
use Rattle.planner.specs.Plan.{Unretired, stores_for, stores_left, runs}
use Rattle.planner.proofs.Transactions.LedgerList.{entry_as, entries_from, closed_of, running_of, core_list, ledger_list}

-- ---- where it stands
pub entries_mem : (l : Ledger) (c i n : ℕ) {u : Unretired} → Memᴰ u (entries_from l c i n)
    → (j : ℕ) × (i ≤ j) × (j < i + n) × (u ≡ entry_as l (new_name c j))
unfolding entries_from
entries_mem l c i zero m = absurd (mem_not_nil m)
entries_mem l c i (suc n) m =
    elim (mem_cases_cons m) [
      | inl e ↦ (i, omega arith, omega arith, e)
      | inr p ↦ (let r = entries_mem l c (suc i) n p in (r.0, omega (arith, r.1), omega (arith, r.2), r.3))
    ]

pub running_mem : (l : Ledger) (c : ℕ) {u : Unretired} → Memᴰ u (running_of l c)
    → (has_running l.book c ≡ true) × (u ≡ entry_as l (next_name c l.book))
unfolding running_of
running_mem l c {u} m =
    cases (has_running l.book c)
    (λ h. (h, mem_eq_of_singleton (rw h at m)))
    (λ h. absurd (mem_not_nil (let p : Memᴰ u [] = rw h at m in p)))

-- one of core c: closed, or the one that runs
pub record OfCore (l : Ledger) (c : ℕ) (u : Unretired) : Type 0 where
  pub number : ℕ
  pub is : u ≡ entry_as l (new_name c number)
  pub place : ((l.book.oldest c ≤ number) × (number < l.book.next c)) ⊎ ((number ≡ l.book.next c) × (has_running l.book c ≡ true))

list_mem : (l : Ledger) (c : ℕ) (low : l.book.oldest c ≤ l.book.next c) {u : Unretired} → Memᴰ u (core_list l c) → OfCore l c u
unfolding core_list closed_of
list_mem l c low m =
    elim (mem_append_cases (entries_from l c (l.book.oldest c) (l.book.next c - l.book.oldest c)) m) [
      | inl p ↦ (let r = entries_mem l c (l.book.oldest c) (l.book.next c - l.book.oldest c) p in
          record { number = r.0; is = r.3; place = inl (r.1, omega (arith, r.2)) })
      | inr p ↦ (let r = running_mem l c p in record { number = l.book.next c; is = r.1; place = inr (refl, r.0) })
    ]

-- ---- what it is
closed_stage : {k : Book} {c : ℕ} → Ranks k c → (j : ℕ) → k.oldest c ≤ j → j < k.next c
    → (is_closed (k.entry (new_name c j)).stage ≡ true) × (is_retired (k.entry (new_name c j)).stage ≡ false)
closed_stage {k} {c} r j a b =
    elim (dec_lt j (k.uncommitted c)) [
      | yes h ↦ (let s = stored_unretired r j a h in (s.is_closed_lem, s.not_retired))
      | no h ↦ (let s = r.waiting j (omega arith) b in (ap is_closed s.1, ap is_retired s.1))
    ]

-- something is left to store of one that runs, or is closed and not retired
left_running : (g : Stage) (n : ℕ) → g ≡ running → 1 ≤ stores_for g n
unfolding stores_for
left_running g n e = rw e (omega arith)

left_closed : (n : ℕ) (g : Stage) → is_closed g ≡ true → is_retired g ≡ false → 1 ≤ stores_for g n
unfolding stores_for
left_closed n =
    by_stage (λ g. is_closed g ≡ true → is_retired g ≡ false → 1 ≤ stores_for g n) impossible impossible (λ k h q. omega arith) (λ k h q. omega arith)
    (λ h q. clash refl q)

pub record Member (l : Ledger) (u : Unretired) : Type 0 where
  pub is : u ≡ entry_as l u.name
  pub running_or_closed : (u.stage ≡ running) ⊎ ((is_closed u.stage ≡ true) × (is_retired u.stage ≡ false))
  pub work : 1 ≤ stores_left u

module _ {l : Ledger} (f : WellFormed l) where
  entry_member : (c : ℕ) → c < l.shape.cores → (j : ℕ)
      → ((l.book.oldest c ≤ j) × (j < l.book.next c)) ⊎ ((j ≡ l.book.next c) × (has_running l.book c ≡ true)) → Member l (entry_as l (new_name c j))
  unfolding entry_as stores_left
  entry_member c h j (inl p) =
      let s = closed_stage (f.ranks c h) j p.0 p.1 in
      record { is = refl; running_or_closed = inr s; work = left_closed (length (l.book.entry (new_name c j)).blocks) _ s.0 s.1 }
  entry_member c h j (inr p) =
      let e : (l.book.entry (new_name c j)).stage ≡ running =
      subst (λ (n : ℕ). (l.book.entry (new_name c n)).stage ≡ running) (sym p.0) (running_is _ p.1) in
      record { is = refl; running_or_closed = inl e; work = left_running _ (length (l.book.entry (new_name c j)).blocks) e }

  low_next : (c : ℕ) → c < l.shape.cores → l.book.oldest c ≤ l.book.next c
  low_next c h = omega (arith, (f.ranks c h).low, (f.ranks c h).mid)

  pub of_core : (c : ℕ) → c < l.shape.cores → {u : Unretired} → Memᴰ u (core_list l c) → OfCore l c u
  of_core c h m = list_mem l c (low_next c h) m

  pub member : {u : Unretired} → Memᴰ u (ledger_list l) → Member l u
  unfolding ledger_list
  member m =
      let r = mem_flat_map (core_list l) (below l.shape.cores) m in
      let h = mem_below l.shape.cores r.1 in
      let x = of_core r.0 h r.2 in
      subst (Member l) (sym x.is) (entry_member r.0 h x.number x.place)

  -- one that does not run is closed, and has a stamp by which it is known
  module _ {u : Unretired} (m : Member l u) (idle : runs u ≡ false) where
    pub entry_closed : (is_closed (l.book.entry u.name).stage ≡ true) × (is_retired (l.book.entry u.name).stage ≡ false)
    unfolding entry_as runs
    entry_closed =
        let e : u.stage ≡ (l.book.entry u.name).stage = ap (λ (v : Unretired). v.stage) m.is in
        elim m.running_or_closed [ inl r ↦ clash (ap is_running r) idle | inr p ↦ (ap is_closed (sym e) ∙ p.0, ap is_retired (sym e) ∙ p.1) ]

    pub its_stamp : u.stamp ≡ l.stamp u.name
    unfolding entry_as
    its_stamp = ap (λ (v : Unretired). v.stamp) m.is ∙ rw (closed_idle _ entry_closed.0) refl

    pub stamp_counted : u.stamp ≤ l.closes
    stamp_counted = omega (arith, its_stamp, (f.frozen u.name entry_closed.0).high)

  pub same_stamp : {u v : Unretired} → Member l u → Member l v → runs u ≡ false → runs v ≡ false → u.stamp ≡ v.stamp → u.name ≡ v.name
  same_stamp {u} {v} a b p q e = f.stamps u.name v.name (entry_closed a p).0 (entry_closed b q).0 (sym (its_stamp a p) ∙ e ∙ its_stamp b q)

  -- ---- none runs but the running one
  entry_idle : (c : ℕ) → c < l.shape.cores → (j : ℕ) → l.book.oldest c ≤ j → j < l.book.next c → runs (entry_as l (new_name c j)) ≡ false
  unfolding entry_as runs
  entry_idle c h j a b = closed_idle (l.book.entry (new_name c j)).stage (closed_stage (f.ranks c h) j a b).0

  pub closed_idles : (c : ℕ) → c < l.shape.cores → all (λ (u : Unretired). not (runs u)) (closed_of l c) ≡ true
  unfolding closed_of
  closed_idles c h =
      mem_all (λ (u : Unretired). not (runs u)) _
      (λ u m.
      let r = entries_mem l c (l.book.oldest c) (l.book.next c - l.book.oldest c) m in
      ap (λ (v : Unretired). not (runs v)) r.3 ∙ ap not (entry_idle c h r.0 r.1 (omega (arith, r.2, low_next c h))))

  -- where no core below n runs one, none in their lists runs
  pub below_idles : (n : ℕ) → n ≤ l.shape.cores → ((i : ℕ) → i < n → has_running l.book i ≡ false)
      → all (λ (u : Unretired). not (runs u)) (flat_map (core_list l) (below n)) ≡ true
  below_idles n h none =
      mem_all (λ (u : Unretired). not (runs u)) _
      (λ u m.
      let r = mem_flat_map (core_list l) (below n) m in
      let i = mem_below n r.1 in
      let x = of_core r.0 (omega arith) r.2 in
      elim x.place [
        | inl p ↦ ap (λ (v : Unretired). not (runs v)) x.is ∙ ap not (entry_idle r.0 (omega arith) x.number p.0 p.1)
        | inr p ↦ clash p.1 (none r.0 i)
      ])
