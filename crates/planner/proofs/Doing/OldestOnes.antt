-- Each core's oldest committed transaction, as CHECKPOINT and RETIRE read it and as the ledger has it.
use Prim.Native.Nat.{ℕ, suc, ◌<◌}
use native.Mathlib.Omega.{arith}
use mathlib.Core.Path.{◌≡◌, refl, sym, ap, ◌∙◌, subst}
use mathlib.Core.List.{List, [], ◌∷◌, Memᴰ}
use mathlib.Core.Bool.{false, not, true≢false}
use lib.ListN.{length, take}
use lib.Dec.{eqb}
use borrow.Author.Tests.{eq-eqb, ne_eqb, ltb-true, lt-ltb, not-false}
use Rattle.model.specs.Journal.{name_of}
use Rattle.model.specs.Command.{World}
use Rattle.model.specs.Checkpoint.{committed_of, oldest}
use Rattle.model.specs.declared.Name.{Name}
use Rattle.model.specs.declared.Committed.{Committed}
use Rattle.model.proofs.Lists.{mem_flat_map, flat_map_mem, below_mem, mem_below}
use Rattle.crash.specs.Ledger.{Ledger}
use Rattle.crash.proofs.Books.BookEntries.{oldest_name}
use Rattle.crash.proofs.Disk.Relation.{CardUp}
use Rattle.crash.proofs.Disk.ReadCheckpoint.{none_committed, oldest_is, oldest_name_lem}
use Rattle.planner.specs.Emptying.{cores_of, oldest_ones}
use Rattle.planner.proofs.Transactions.ListFacts.{cores_up}

first_in : (es : List Committed) (e : Committed) → Memᴰ e (take 1 es) → (eqb (length es) 0 ≡ false) × (e ≡ oldest es)
unfolding oldest
first_in [] e m = absurd (mathlib.Core.List.Memᴰ.not-nil m)
first_in (f ∷ fs) e m = (ne_eqb (suc (length fs)) 0 (λ z. omega arith), mathlib.Core.List.Memᴰ.eq_of_singleton m)

in_first : (es : List Committed) → eqb (length es) 0 ≡ false → Memᴰ (oldest es) (take 1 es)
unfolding oldest
in_first [] h = absurd (true≢false (sym (eq-eqb 0 0 refl) ∙ h))
in_first (f ∷ fs) h = mathlib.Core.List.Memᴰ.head refl

module _ {l : Ledger} {w : World} (u : CardUp l w) where
  -- one of them: its core, and where it stands in the ledger
  pub record OldestOf (e : Committed) (c : ℕ) : Type 0 where
    pub in_range_lem : c < l.shape.cores
    pub some_committed : l.book.oldest c < l.book.uncommitted c
    pub core : e.core ≡ c
    pub name : name_of e ≡ oldest_name c l.book
    pub stamp : e.stamp ≡ l.stamp (oldest_name c l.book)
    pub count : e.count ≡ length (l.book.entry (oldest_name c l.book)).blocks

  pub oldest_at : (c : ℕ) → c < l.shape.cores → l.book.oldest c < l.book.uncommitted c → OldestOf (oldest (committed_of w c)) c
  oldest_at c h g =
      let r = oldest_is u c h g in
      let n = oldest_name_lem u c h g in
      record { in_range_lem = h; some_committed = g; core = r.core; name = n; stamp = r.stamp ∙ ap l.stamp n; count = r.count ∙ ap (λ (t : Name). length (l.book.entry t).blocks) n }

  pub in_oldest : (e : Committed) → Memᴰ e (oldest_ones w) → (c : ℕ) × OldestOf e c
  unfolding oldest_ones
  in_oldest e m =
      let r = mem_flat_map (λ (c : ℕ). take 1 (committed_of w c)) (cores_of w) m in
      let c = r.0 in
      let h : c < l.shape.cores = mem_below l.shape.cores (subst (Memᴰ c) (cores_up u) r.1) in
      let f = first_in (committed_of w c) e r.2 in
      let g : l.book.oldest c < l.book.uncommitted c = ltb-true _ _ (not-false _ (sym (none_committed u c h) ∙ f.0)) in
      (c, subst (λ (x : Committed). OldestOf x c) (sym f.1) (oldest_at c h g))

  pub oldest_in : (c : ℕ) → c < l.shape.cores → l.book.oldest c < l.book.uncommitted c → (e : Committed) × Memᴰ e (oldest_ones w) × OldestOf e c
  unfolding oldest_ones
  oldest_in c h g =
      let n : eqb (length (committed_of w c)) 0 ≡ false = none_committed u c h ∙ ap not (lt-ltb _ _ g) in
      let m : Memᴰ c (cores_of w) = subst (Memᴰ c) (sym (cores_up u)) (below_mem l.shape.cores c h) in
      (oldest (committed_of w c), flat_map_mem (λ (c : ℕ). take 1 (committed_of w c)) m (in_first (committed_of w c) n), oldest_at c h g)
