-- No name stands twice in the ledger's list; so the stamps of those that do not run are distinct.
use Rattle.model.proofs.Base.{ℕ, zero, suc, ◌-◌, ◌≤◌, ◌<◌, arith, ◌≡◌, refl, sym, ap, subst, ◌∙◌, ◌≢◌, inl, inr, Bool, not}
use Rattle.model.proofs.Base.{List, [], ◌∷◌, ◌++◌, Memᴰ, mem_not_nil, mem_append_cases}
use Rattle.model.proofs.Base.{flat_map, below, not-true}
use Rattle.model.specs.Lists.{Pairs, select}
use Rattle.model.specs.Card.{new_name}
use Rattle.model.specs.declared.Name.{Name}
use Rattle.model.proofs.Lists.{cases, mem_below, mem_flat_map, flat_map_append, mem_each}
use Rattle.model.proofs.Each.{pairs_append, pairs_select, pairs_so}
use Rattle.model.proofs.Select.{select_mem}
use Rattle.crash.specs.Book.{has_running}
use Rattle.crash.specs.Ledger.{Ledger}
use Rattle.crash.proofs.Disk.Relation.{WellFormed}
use Rattle.planner.specs.Plan.{Unretired, runs}
use Rattle.planner.proofs.Transactions.LedgerList.{entry_as, entries_from, closed_of, running_of, core_list, ledger_list}
use Rattle.planner.proofs.Transactions.ListMembers.{entries_mem, running_mem, of_core, member, same_stamp}

-- ---- several lists
module _ {A : Type 0} where
  pairs_flat : (R : A → A → Type 0) (f : ℕ → List A) (n : ℕ) → ((i : ℕ) → i < n → Pairs R (f i))
      → ((i j : ℕ) (x y : A) → i < j → j < n → Memᴰ x (f i) → Memᴰ y (f j) → R x y) → Pairs R (flat_map f (below n))
  unfolding flat_map below
  pairs_flat R f zero own between = tt
  pairs_flat R f (suc n) own between =
      subst (Pairs R) (sym (flat_map_append f (below n) (n ∷ [])))
      (pairs_append R (flat_map f (below n)) (f n ++ []) (pairs_flat R f n (λ i h. own i (omega arith)) (λ i j x y a b. between i j x y a (omega arith)))
      (pairs_append R (f n) [] (own n (omega arith)) tt (λ x y m q. absurd (mem_not_nil q)))
      (λ x y m q.
      let r = mem_flat_map f (below n) m in
      between r.0 n x y (mem_below n r.1) (omega arith) r.2
      (elim (mem_append_cases (f n) q) [ inl p ↦ p | inr p ↦ absurd (mem_not_nil p) ])))

-- ---- names
abbrev OtherName : Unretired → Unretired → Type 0
OtherName u v = u.name ≢ v.name

entry_name : (l : Ledger) (t : Name) → (entry_as l t).name ≡ t
unfolding entry_as
entry_name l t = refl

names_apart : (l : Ledger) {u v : Unretired} {s t : Name} → u ≡ entry_as l s → v ≡ entry_as l t → s ≢ t → OtherName u v
names_apart l {s = s} {t} p q ne e =
    ne (sym (ap (λ (x : Unretired). x.name) p ∙ entry_name l s) ∙ e ∙ (ap (λ (x : Unretired). x.name) q ∙ entry_name l t))

module _ (l : Ledger) (c : ℕ) where
  entries_names : (i n : ℕ) → Pairs OtherName (entries_from l c i n)
  unfolding entries_from
  entries_names i zero = tt
  entries_names i (suc n) = (
    mem_each (OtherName (entry_as l (new_name c i))) (entries_from l c (suc i) n)
        (λ v m.
        let r = entries_mem l c (suc i) n m in
        names_apart l refl r.3 (λ e. let z : i ≡ r.0 = ap (λ (t : Name). t.number) e in omega (arith, r.1))),
    entries_names (suc i) n,
  )

  running_names : Pairs OtherName (running_of l c)
  unfolding running_of
  running_names = cases (has_running l.book c) (λ h. rw h (tt, tt)) (λ h. rw h tt)

  list_names : l.book.oldest c ≤ l.book.next c → Pairs OtherName (core_list l c)
  unfolding core_list closed_of
  list_names low =
      pairs_append OtherName (entries_from l c (l.book.oldest c) (l.book.next c - l.book.oldest c)) (running_of l c)
      (entries_names (l.book.oldest c) (l.book.next c - l.book.oldest c)) running_names
      (λ u v m q.
      let r = entries_mem l c (l.book.oldest c) (l.book.next c - l.book.oldest c) m in
      let s = running_mem l c q in
      names_apart l r.3 s.1 (λ e. let z : r.0 ≡ l.book.next c = ap (λ (t : Name). t.number) e in omega (arith, r.2)))

module _ {l : Ledger} (f : WellFormed l) where
  all_names : Pairs OtherName (ledger_list l)
  unfolding ledger_list
  all_names =
      pairs_flat OtherName (core_list l) l.shape.cores (λ c h. list_names l c (omega (arith, (f.ranks c h).low, (f.ranks c h).mid)))
      (λ i j u v a b m q.
      let x = of_core f i (omega arith) m in
      let y = of_core f j b q in
      names_apart l x.is y.is (λ e. let z : i ≡ j = ap (λ (t : Name). t.core) e in omega arith))

  pub distinct_stamps : Pairs (λ (u v : Unretired). u.stamp ≢ v.stamp) (select (λ (u : Unretired). not (runs u)) (ledger_list l))
  distinct_stamps =
      let p : Unretired → Bool = λ u. not (runs u) in
      pairs_so OtherName (λ (u v : Unretired). u.stamp ≢ v.stamp) (select p (ledger_list l))
      (λ u v m q ne e.
      let a = select_mem p (ledger_list l) u m in
      let b = select_mem p (ledger_list l) v q in
      ne (same_stamp f (member f a.0) (member f b.0) (not-true _ a.1) (not-true _ b.1) e))
      (pairs_select OtherName p (ledger_list l) all_names)
