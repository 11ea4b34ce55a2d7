-- The first number below a count that meets a test, and that there is none.
use Prim.Native.Nat.{ℕ, zero, suc, ◌<◌}
use native.Mathlib.Omega.{arith}
use mathlib.Core.Path.{◌≡◌, refl, sym, subst}
use mathlib.Core.Logic.{inl, inr}
use mathlib.Core.Bool.{Bool, true, false}
use mathlib.Core.List.Memᴰ
use mathlib.Core.List.{List, [], ◌∷◌, Memᴰ}
use Rattle.model.specs.Lists.{below, select, Each, Pairs}
use Rattle.model.proofs.Lists.{cases, below_mem, mem_below}
use Rattle.model.proofs.Select.{select_mem, mem_select}
use Rattle.model.proofs.Each.{each_mem, pairs_append, pairs_select}

below_ascends : (n : ℕ) → Pairs ◌<◌ (below n)
unfolding below
below_ascends zero = tt
below_ascends (suc n) =
    pairs_append ◌<◌ (below n) (n ∷ []) (below_ascends n) (tt, tt) (λ i j m k. let e : j ≡ n = Memᴰ.eq_of_singleton k in omega (arith, mem_below n m))

module _ (p : ℕ → Bool) where
  pub none_meets : (n : ℕ) → select p (below n) ≡ [] → (i : ℕ) → i < n → p i ≡ false
  none_meets n e i h = cases (p i) (λ q. absurd (Memᴰ.not-nil (subst (Memᴰ i) e (mem_select p (below n) i (below_mem n i h) q)))) (λ q. q)

  pub record IsFirst (n c : ℕ) : Type 0 where
    pub in_range_lem : c < n
    pub meets : p c ≡ true
    pub lower : (i : ℕ) → i < c → p i ≡ false

  pub first_meets : (n c : ℕ) (cs : List ℕ) → select p (below n) ≡ c ∷ cs → IsFirst n c
  first_meets n c cs h =
      let m = select_mem p (below n) c (subst (Memᴰ c) (sym h) (Memᴰ.head refl)) in
      let above : Each (λ (i : ℕ). c < i) cs = (subst (Pairs ◌<◌) h (pairs_select ◌<◌ p (below n) (below_ascends n))).0 in
      record {
        in_range_lem = mem_below n m.0;
        meets = m.1;
        lower =
            λ i l.
            cases (p i)
            (λ q.
            elim (Memᴰ.cases_cons (subst (Memᴰ i) h (mem_select p (below n) i (below_mem n i (omega (arith, mem_below n m.0))) q)))
            [ inl e ↦ absurd (omega arith) | inr k ↦ absurd (omega (arith, each_mem (λ (i : ℕ). c < i) above k)) ])
            (λ q. q);
      }
