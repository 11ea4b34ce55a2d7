-- Numbers for each core in range: 'A number for a core not below C is out of range'. So a commit names at most C transactions, and no
-- command can meet refusal 24.
use Prim.Native.Nat.{ℕ, ◌≤◌, ◌<◌}
use native.Mathlib.Omega.{arith}
use native.Mathlib.Decide.{dec_lt}
use mathlib.Core.Path.{◌≡◌}
use mathlib.Core.Bool.{true}
use lib.Dec.{leb, ltb}
use borrow.Author.Tests.{le-leb, lt-ltb, ltb-true}
use Rattle.model.specs.Lists.{all}
use Rattle.model.specs.Layout.{names_from, is_listable}
use Rattle.model.specs.declared.Shape.{Shape}
use Rattle.model.proofs.Lists.{and_both, and_left, all_mem, mem_all}
use Rattle.model.proofs.Highest.{names_from_lem, from_names}

module _ (s : Shape) (f : ℕ → ℕ) where
  pub numbers_listable : ((c : ℕ) → c < 8 → s.cores ≤ c → f c ≡ 0) → all (is_listable s) (names_from f) ≡ true
  unfolding is_listable
  numbers_listable h =
      mem_all (is_listable s) (names_from f)
      (λ n m.
      let r = names_from_lem f n m in
      let l : r.0 < s.cores = elim (dec_lt r.0 s.cores) [ yes y ↦ y | no g ↦ absurd (omega (arith, h r.0 r.1 (omega arith), r.2)) ] in
      rw r.3 (and_both (lt-ltb r.0 s.cores l) (le-leb 1 (f r.0) r.2)))

  pub listable_numbers : all (is_listable s) (names_from f) ≡ true → (c : ℕ) → c < 8 → s.cores ≤ c → f c ≡ 0
  unfolding is_listable
  listable_numbers h c l g =
      elim (dec_lt 0 (f c)) [
        | yes y ↦ absurd (let q = ltb-true c s.cores (and_left (ltb c s.cores) (leb 1 (f c)) (all_mem (is_listable s) (names_from f) h (from_names f c l y))) in omega arith)
        | no z ↦ omega arith
      ]
