-- Ascending numbers: the numbers below a count are, and those of them that meet a test. Those left after the first are those above it.
use Rattle.model.proofs.Base.{ℕ, zero, suc, ◌+◌, ◌<◌, arith, ◌≡◌, refl, sym, ◌∙◌, inl, inr, Bool, List, [], ◌∷◌, ◌++◌, Memᴰ, mem_head, mem_tail, mem_not_nil, ap}
use Rattle.model.proofs.Base.{mem_append_cases, mem_eq_of_singleton, length, leb, le-leb, lt-leb, leb-true, leb-false, below, select}
use Rattle.model.proofs.Lists.{cases, mem_below}
use Rattle.model.proofs.Select.{select_mem, select_same}

abbrev pub Ascending : List ℕ → Type 0
Ascending [] = Unit {0}
Ascending (x ∷ xs) = ((y : ℕ) → Memᴰ y xs → x < y) × Ascending xs

ascending_snoc : (xs : List ℕ) (n : ℕ) → Ascending xs → ((y : ℕ) → Memᴰ y xs → y < n) → Ascending (xs ++ (n ∷ []))
ascending_snoc [] n a h = (λ y m. absurd (mem_not_nil m), tt)
ascending_snoc (x ∷ xs) n a h = (
  λ y m. elim (mem_append_cases xs m) [ inl p ↦ a.0 y p | inr p ↦ (let e = mem_eq_of_singleton p in omega (arith, h x (mem_head refl))) ],
  ascending_snoc xs n a.1 (λ y m. h y (mem_tail m)),
)

pub ascending_below : (n : ℕ) → Ascending (below n)
unfolding below
ascending_below zero = tt
ascending_below (suc n) = ascending_snoc (below n) n (ascending_below n) (λ y m. mem_below n m)

pub ascending_select : (p : ℕ → Bool) (xs : List ℕ) → Ascending xs → Ascending (select p xs)
unfolding select
ascending_select p [] a = tt
ascending_select p (x ∷ xs) a =
    let r = ascending_select p xs a.1 in
    cases (p x) (λ h. rw h (λ y m. a.0 y (select_mem p xs y m).0, r)) (λ h. rw h r)

pub select_after : (r b : ℕ) (bs xs : List ℕ) → Ascending xs → select (leb r) xs ≡ b ∷ bs → bs ≡ select (leb (b + 1)) xs
unfolding select
select_after r b bs [] a e = absurd (omega (arith, ap length e))
select_after r b bs (x ∷ xs) a e =
    cases (leb r x)
    (λ h.
    let k : x ∷ select (leb r) xs ≡ b ∷ bs = rw h at e in
    let i : x ≡ b = cc in
    let j : select (leb r) xs ≡ bs = cc in
    let l = leb-true r x h in
    let f : select (leb r) xs ≡ xs = select_same (leb r) xs (λ y m. le-leb r y (omega (arith, a.0 y m))) in
    let g : select (leb (b + 1)) xs ≡ xs = select_same (leb (b + 1)) xs (λ y m. le-leb (b + 1) y (omega (arith, a.0 y m))) in
    rw (lt-leb (b + 1) x (omega arith)) (sym j ∙ f ∙ sym g))
    (λ h.
    let k : select (leb r) xs ≡ b ∷ bs = rw h at e in
    let m = select_mem (leb r) xs b (rw k (mem_head refl)) in
    rw (lt-leb (b + 1) x (omega (arith, leb-false r x h, leb-true r b m.1))) (select_after r b bs xs a.1 k))
