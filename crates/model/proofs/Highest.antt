-- Paper 02, (d): 'With (c) in force, only the highest number named for each core matters.': where a number is met only with all
-- below it on its core, the names of a list are met exactly if the highest of each core is. And the laws of the highest numbers, and of the
-- names that a number for each core gives.
use Prim.Native.Nat.{ℕ, zero, suc, max, ◌≤◌, ◌<◌}
use native.Mathlib.Omega.{arith, max_cases}
use native.Mathlib.Decide.{dec_lt}
use mathlib.Core.Path.{◌≡◌, refl, sym, ap, ◌∙◌, subst}
use mathlib.Core.Logic.{◌⊎◌, inl, inr}
use mathlib.Core.Bool.{Bool, true, false, cond}
use mathlib.Core.List.Memᴰ
use mathlib.Core.List.{List, [], ◌∷◌, ◌++◌, map, map-append, Memᴰ}
use lib.ListN.{length, length-append, length-map}
use lib.Dec.{eqb, leb}
use borrow.Author.Tests.{eqb-true, eq-eqb, leb-true, le-leb, lt-leb}
use Rattle.model.specs.Limits.{max_cores}
use Rattle.model.specs.Lists.{below, all, any, select}
use Rattle.model.specs.Card.{new_name}
use Rattle.model.specs.Layout.{highest_in, names_from, cores_named}
use Rattle.model.specs.declared.Name.{Name}
use Rattle.model.proofs.Lists.{all_earlier, cases, bool_ext, all_mem, mem_all, any_mem, mem_any, length_below, mem_below, below_mem, map_below}
use Rattle.model.proofs.Select.{select_append, select_length, mem_select, select_mem, select_map}

-- ---- the highest number named for a core
-- what one name gives for a core: 'zero for none'
abbrev pub number_for : ℕ → Name → ℕ
number_for c n = cond (eqb c n.core) n.number 0

number_own : (c : ℕ) (n : Name) → eqb c n.core ≡ true → number_for c n ≡ n.number
number_own c n h = ap (λ (t : Bool). cond t n.number 0) h

number_other : (c : ℕ) (n : Name) → eqb c n.core ≡ false → number_for c n ≡ 0
number_other c n h = ap (λ (t : Bool). cond t n.number 0) h

highest_more : (n : Name) (ns : List Name) (c : ℕ) → highest_in (n ∷ ns) c ≡ max (number_for c n) (highest_in ns c)
unfolding highest_in
highest_more n ns c = refl

highest_none : (c : ℕ) → highest_in [] c ≡ 0
unfolding highest_in
highest_none c = refl

-- no name of the list has a higher number on its core
pub highest_least : (ns : List Name) (n : Name) → Memᴰ n ns → n.number ≤ highest_in ns n.core
highest_least [] n m = absurd (Memᴰ.not-nil m)
highest_least (x ∷ ns) n m =
    elim (Memᴰ.cases_cons m) [
      | inl e ↦ (let own : number_for n.core x ≡ x.number = number_own n.core x (eq-eqb n.core x.core (ap (λ (y : Name). y.core) e)) in
          let same : n.number ≡ x.number = ap (λ (y : Name). y.number) e in
          omega (arith, highest_more x ns n.core, own, same))
      | inr t ↦ omega (arith, highest_more x ns n.core, highest_least ns n t)
    ]

-- it is that of a name of the list, or none
pub highest_member : (ns : List Name) (c : ℕ) → (highest_in ns c ≡ 0) ⊎ Memᴰ (new_name c (highest_in ns c)) ns
highest_member [] c = inl (highest_none c)
highest_member (x ∷ ns) c =
    let Is : ℕ → Type 0 = λ k. (k ≡ 0) ⊎ Memᴰ (new_name c k) (x ∷ ns) in
    let first : Is (number_for c x) =
    cases (eqb c x.core)
    (λ h. inr (Memᴰ.head (ap (new_name c) (number_own c x h) ∙ ap (λ (i : ℕ). new_name i x.number) (eqb-true c x.core h))))
    (λ h. inl (number_other c x h)) in
    let rest : Is (highest_in ns c) = elim (highest_member ns c) [ inl z ↦ inl z | inr m ↦ inr (Memᴰ.tail m) ] in
    max_cases (number_for c x) (highest_in ns c) (Is (highest_in (x ∷ ns) c))
    (λ l e. subst Is (sym (highest_more x ns c ∙ e)) rest)
    (λ l e. subst Is (sym (highest_more x ns c ∙ e)) first)

pub highest_append : (ns : List Name) (n : Name) (c : ℕ) → highest_in (ns ++ (n ∷ [])) c ≡ max (highest_in ns c) (cond (eqb c n.core) n.number 0)
highest_append [] n c = omega (arith, highest_more n [] c, highest_none c)
highest_append (x ∷ ns) n c = omega (arith, highest_more x (ns ++ (n ∷ [])) c, highest_more x ns c, highest_append ns n c)

number_within : (ns : List Name) (n : Name) (c : ℕ) → Memᴰ n ns → number_for c n ≤ highest_in ns c
number_within ns n c m =
    cases (eqb c n.core)
    (λ h. let e : n.core ≡ c = sym (eqb-true c n.core h) in
    let l : n.number ≤ highest_in ns c = subst (λ (i : ℕ). n.number ≤ highest_in ns i) e (highest_least ns n m) in
    omega (arith, number_own c n h, l))
    (λ h. omega (arith, number_other c n h))

-- a name that is in the list already changes nothing
pub highest_again : (ns : List Name) (n : Name) (c : ℕ) → Memᴰ n ns → highest_in (ns ++ (n ∷ [])) c ≡ highest_in ns c
highest_again ns n c m = omega (arith, highest_append ns n c, number_within ns n c m)

-- ---- the names that a number for each core gives
-- a number that is not zero
abbrev is_named : Name → Bool
is_named n = leb 1 n.number

pub names_from_lem : (f : ℕ → ℕ) (n : Name) → Memᴰ n (names_from f) → (c : ℕ) × (c < 8) × (1 ≤ f c) × (n ≡ new_name c (f c))
unfolding names_from
names_from_lem f n m =
    let s = select_mem is_named (map (λ (c : ℕ). new_name c (f c)) (below max_cores)) n m in
    let r = Memᴰ.of_map (λ (c : ℕ). new_name c (f c)) (below max_cores) s.0 in
    let some : 1 ≤ n.number = leb-true 1 n.number s.1 in
    let same : f r.0 ≡ n.number = ap (λ (y : Name). y.number) r.2 in
    (r.0, mem_below max_cores r.1, omega (arith, some, same), sym r.2)

pub from_names : (f : ℕ → ℕ) (c : ℕ) → c < 8 → 1 ≤ f c → Memᴰ (new_name c (f c)) (names_from f)
unfolding names_from
from_names f c h l =
    mem_select is_named (map (λ (i : ℕ). new_name i (f i)) (below max_cores)) (new_name c (f c))
    (Memᴰ.map (λ (i : ℕ). new_name i (f i)) (below_mem max_cores c h))
    (le-leb 1 (f c) l)

pub names_same : (f g : ℕ → ℕ) → ((c : ℕ) → c < 8 → f c ≡ g c) → names_from f ≡ names_from g
unfolding names_from
names_same f g h =
    ap (select is_named)
    (map_below (λ (c : ℕ). new_name c (f c)) (λ (c : ℕ). new_name c (g c)) max_cores (λ c l. ap (new_name c) (h c l)))

-- the highest number that they name for a core is the one given
pub highest_from : (f : ℕ → ℕ) (c : ℕ) → c < 8 → highest_in (names_from f) c ≡ f c
highest_from f c h =
    elim (highest_member (names_from f) c) [
      | inl z ↦ elim (dec_lt 0 (f c)) [
        | yes some ↦ absurd (omega (arith, z, highest_least (names_from f) (new_name c (f c)) (from_names f c h (omega (arith, some)))))
        | no none ↦ omega (arith, z, none)
      ]
      | inr m ↦ (let r = names_from_lem f (new_name c (highest_in (names_from f) c)) m in
          let here : c ≡ r.0 = ap (λ (n : Name). n.core) r.3 in
          ap (λ (n : Name). n.number) r.3 ∙ ap f (sym here))
    ]

select_one : (p : Name → Bool) (x : Name) → p x ≡ false → select p (x ∷ []) ≡ []
unfolding select
select_one p x h = rw h

few_below : (f : ℕ → ℕ) (n k : ℕ) → ((c : ℕ) → n ≤ c → c < k → f c ≡ 0) → length (select is_named (map (λ (c : ℕ). new_name c (f c)) (below k))) ≤ n
unfolding below select
few_below f n zero h = omega arith
few_below f n (suc k) h =
    let name : ℕ → Name = λ c. new_name c (f c) in
    let before = select is_named (map name (below k)) in
    elim (dec_lt k n) [
      | yes l ↦ omega (arith, select_length is_named (map name (below (suc k))), length-map (below (suc k)) name, length_below (suc k), l)
      | no g ↦ (let none : f k ≡ 0 = h k (omega (arith, g)) (omega arith) in
          let last : select is_named (name k ∷ []) ≡ [] = select_one is_named (name k) (lt-leb 1 (f k) (omega (arith, none))) in
          let same : select is_named (map name (below (suc k))) ≡ before ++ [] =
          ap (select is_named) (map-append name (below k) (k ∷ [])) ∙ select_append is_named (map name (below k)) (name k ∷ []) ∙ ap (λ (l : List Name). before ++ l) last in
          omega (arith, ap length same, length-append before [], few_below f n k (λ c a b. h c a (omega (arith, b)))))
    ]

-- they are at most as many as the cores, if no number is given for others
pub names_few : (f : ℕ → ℕ) (n : ℕ) → ((c : ℕ) → n ≤ c → c < 8 → f c ≡ 0) → length (names_from f) ≤ n
unfolding names_from
names_few f n h = few_below f n max_cores h

-- ---- 'the page counts the cores named': they are the names of the highest
core_named : (ns : List Name) → ((n : Name) → Memᴰ n ns → 1 ≤ n.number) → (c : ℕ) → leb 1 (highest_in ns c) ≡ any (λ (n : Name). eqb c n.core) ns
core_named ns some c = bool_ext found shown
  where
    found : leb 1 (highest_in ns c) ≡ true → any (λ (n : Name). eqb c n.core) ns ≡ true
    found h =
        elim (highest_member ns c) [
          | inl z ↦ absurd (omega (arith, z, leb-true 1 (highest_in ns c) h))
          | inr m ↦ mem_any (λ (n : Name). eqb c n.core) m (eq-eqb c c refl)
        ]

    shown : any (λ (n : Name). eqb c n.core) ns ≡ true → leb 1 (highest_in ns c) ≡ true
    shown h =
        let r = any_mem (λ (n : Name). eqb c n.core) ns h in
        le-leb 1 (highest_in ns c) (omega (arith, some r.0 r.1, number_own c r.0 r.2, number_within ns r.0 c r.1))

pub cores_named_lem : (ns : List Name) → ((n : Name) → Memᴰ n ns → 1 ≤ n.number) → cores_named ns ≡ length (names_from (highest_in ns))
unfolding cores_named names_from
cores_named_lem ns some =
    let name : ℕ → Name = λ c. new_name c (highest_in ns c) in
    let is_one : ℕ → Bool = λ c. any (λ (n : Name). eqb c n.core) ns in
    sym (ap length (select_map name is_one is_named (core_named ns some) (below max_cores)) ∙ length-map (select is_one (below max_cores)) name)

-- of a number for each core it is the count of their names
pub cores_of_numbers : (f : ℕ → ℕ) → cores_named (names_from f) ≡ length (names_from f)
cores_of_numbers f =
    cores_named_lem (names_from f) (λ n m. let r = names_from_lem f n m in subst (λ (u : Name). 1 ≤ u.number) (sym r.3) r.2)
    ∙ ap length (names_same (highest_in (names_from f)) f (highest_from f))

-- ---- the highest of each core decide
-- a number is met only with the one before it
abbrev pub Downward : (Name → Bool) → Type 0
Downward met = (c k : ℕ) → met (new_name c (suc k)) ≡ true → met (new_name c k) ≡ true

met_earlier : (met : Name → Bool) → Downward met → (c n m : ℕ) → n ≤ m → met (new_name c m) ≡ true → met (new_name c n) ≡ true
met_earlier met down c n m = all_earlier (λ (k : ℕ). met (new_name c k) ≡ true) 0 (λ k _. down c k) n m (omega arith)

pub highest_met : (met : Name → Bool) → Downward met → (ns : List Name) → ((n : Name) → Memᴰ n ns → (n.core < 8) × (1 ≤ n.number))
    → all met ns ≡ all met (names_from (highest_in ns))
highest_met met down ns range = bool_ext (λ h. mem_all met (names_from (highest_in ns)) (highest h)) (λ h. mem_all met ns (each h))
  where
    highest : all met ns ≡ true → (n : Name) → Memᴰ n (names_from (highest_in ns)) → met n ≡ true
    highest h n m =
        let r = names_from_lem (highest_in ns) n m in
        elim (highest_member ns r.0) [
          | inl z ↦ absurd (omega (arith, z, r.2))
          | inr i ↦ ap met r.3 ∙ all_mem met ns h i
        ]

    each : all met (names_from (highest_in ns)) ≡ true → (n : Name) → Memᴰ n ns → met n ≡ true
    each h n m =
        let l : n.number ≤ highest_in ns n.core = highest_least ns n m in
        let some : 1 ≤ highest_in ns n.core = omega (arith, l, (range n m).1) in
        met_earlier met down n.core n.number (highest_in ns n.core) l
        (all_mem met (names_from (highest_in ns)) h (from_names (highest_in ns) n.core (range n m).0 some))
