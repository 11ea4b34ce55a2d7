-- The records that count, core by core: which elements the model's list of them has, a name looked up by the counts, and what lower
-- counts select of it.
use Rattle.model.proofs.Base.{ℕ, zero, suc, ◌+◌, ◌-◌, ◌≤◌, ◌<◌, arith, dec_lt, ◌≡◌, refl, sym, ap, ◌∙◌, subst}
use Rattle.model.proofs.Base.{Bool, true, ◌&&◌, List, [], ◌∷◌, ◌++◌, map, flat_map, append-nil, Memᴰ, mem_not_nil, mem_cases_cons, inl, inr}
use Rattle.model.proofs.Base.{get_or, ltb, lt-ltb, le-ltb, ltb-true, ltb-false, below, select}
use mathlib.Core.List.Memᴰ
use Rattle.model.specs.Card.{new_name, same_name}
use Rattle.model.specs.Lists.{total, Each}
use Rattle.model.specs.Journal.{name_of}
use Rattle.model.specs.Valid.{is_in, is_met}
use Rattle.model.specs.declared.Shape.{Shape}
use Rattle.model.specs.declared.Name.{Name}
use Rattle.model.specs.declared.Committed.{Committed}
use Rattle.model.proofs.Lists.{cases, bool_ext, and_both, and_left, and_right, any_mem, mem_any, mem_flat_map, flat_map_mem, mem_below, below_mem, flat_map_below, mem_each}
use Rattle.model.proofs.Limits.{InRange}
use Rattle.model.proofs.Select.{select_same, select_append, select_map}
use Rattle.model.proofs.SameShrink.{SelectedOf}
use Rattle.model.proofs.Totals.{total_le}
use Rattle.model.proofs.Valid.{same_name_true, same_name_refl}
use Rattle.journal.specs.declared.extents.Extent.{Extent}
use Rattle.journal.specs.Records.{record_in, run_in, records_in}
use Rattle.valid.specs.Sets.{tail_number, numbered, count_met, total_count}

-- ---- lists
select_flat_map : {A B : Type 0} (p : B → Bool) (f : A → List B) (xs : List A) → select p (flat_map f xs) ≡ flat_map (λ (x : A). select p (f x)) xs
unfolding flat_map select
select_flat_map p f [] = refl
select_flat_map p f (x ∷ xs) = select_append p (f x) (flat_map f xs) ∙ ap (λ l. select p (f x) ++ l) (select_flat_map p f xs)

select_below : (m n : ℕ) → m ≤ n → select (λ (j : ℕ). ltb j m) (below n) ≡ below m
unfolding below select
select_below m zero h = let e : 0 ≡ m = omega arith in ap below e
select_below m (suc n) h =
    elim (dec_lt n m) [
      | yes l ↦ (let e : suc n ≡ m = omega arith in
          select_same (λ (j : ℕ). ltb j m) (below (suc n)) (λ j i. lt-ltb j m (omega (arith, mem_below (suc n) i))) ∙ ap below e)
      | no g ↦ select_append (λ (j : ℕ). ltb j m) (below n) (n ∷ []) ∙ rw (le-ltb n m (omega arith)) (append-nil _ ∙ select_below m n (omega arith))
    ]

-- of two numbers of each, one never above the other: with equal sums they are equal
total_tight : {A : Type 0} (f g : A → ℕ) (xs : List A) → Each (λ (x : A). f x ≤ g x) xs → total f xs ≡ total g xs → (x : A) → Memᴰ x xs → f x ≡ g x
unfolding total
total_tight f g [] a h x m = absurd (mem_not_nil m)
total_tight f g (z ∷ zs) a h x m =
    let t = total_le f g zs a.1 in
    let e : f z ≡ g z = omega (arith, a.0) in
    elim (mem_cases_cons m) [ inl q ↦ rw q e | inr i ↦ total_tight f g zs a.1 (omega arith) x i ]

-- ---- the records that count
-- record j of core c
unfoldable pub record_of : List Extent → List ℕ → List ℕ → ℕ → ℕ → Committed
record_of xs ks start c j = record_in xs c (get_or ks c 0 + j) (get_or start c 0 + j)

-- e is that record, and counts
pub record IsCounted (s : Shape) (xs : List Extent) (ks start count : List ℕ) (e : Committed) (c j : ℕ) : Type 0 where
  pub core : c < s.cores
  pub place : j < get_or count c 0
  pub same : e ≡ record_of xs ks start c j

pub record_name : (xs : List Extent) (ks start : List ℕ) (c j : ℕ) → name_of (record_of xs ks start c j) ≡ new_name c (get_or ks c 0 + j)
unfolding record_of record_in
record_name xs ks start c j = refl

pub tail_number_lem : (s : Shape) (ks : List ℕ) → InRange s → (c : ℕ) → c < s.cores → tail_number ks c ≡ get_or ks c 0
unfolding tail_number
tail_number_lem s ks l c h = rw (lt-ltb c 8 (omega (arith, l.few_cores)))

module _ (s : Shape) (xs : List Extent) (ks start count : List ℕ) where
  pub mem_records : (e : Committed) → Memᴰ e (records_in s xs ks start count) → (c : ℕ) × (j : ℕ) × IsCounted s xs ks start count e c j
  unfolding records_in run_in record_of
  mem_records e m =
      let r = mem_flat_map (λ (c : ℕ). run_in xs c (get_or ks c 0) (get_or start c 0) (get_or count c 0)) (below s.cores) m in
      let q = Memᴰ.of_map (λ (j : ℕ). record_in xs r.0 (get_or ks r.0 0 + j) (get_or start r.0 0 + j)) (below (get_or count r.0 0)) r.2 in
      (r.0, q.0, record { core = mem_below s.cores r.1; place = mem_below (get_or count r.0 0) q.1; same = sym q.2 })

  pub records_mem : (c j : ℕ) → c < s.cores → j < get_or count c 0 → Memᴰ (record_of xs ks start c j) (records_in s xs ks start count)
  unfolding records_in run_in record_of
  records_mem c j h l =
      flat_map_mem (λ (c : ℕ). run_in xs c (get_or ks c 0) (get_or start c 0) (get_or count c 0)) (below_mem s.cores c h)
      (Memᴰ.map (λ (j : ℕ). record_in xs c (get_or ks c 0 + j) (get_or start c 0 + j)) (below_mem (get_or count c 0) j l))

  -- a name is that of one of them only
  pub named_record : (c j : ℕ) (e : Committed) → new_name c (get_or ks c 0 + j) ≡ name_of e → Memᴰ e (records_in s xs ks start count)
      → IsCounted s xs ks start count e c j
  named_record c j e q m =
      let r = mem_records e m in
      let n : new_name c (get_or ks c 0 + j) ≡ new_name r.0 (get_or ks r.0 0 + r.1) = q ∙ ap name_of r.2.same ∙ record_name xs ks start r.0 r.1 in
      let z : r.0 ≡ c = sym (ap (λ (x : Name). x.core) n) in
      let k : get_or ks c 0 + j ≡ get_or ks r.0 0 + r.1 = ap (λ (x : Name). x.number) n in
      let g : get_or ks c 0 + j ≡ get_or ks c 0 + r.1 = k ∙ ap (λ (i : ℕ). get_or ks i 0 + r.1) z in
      let i : r.1 ≡ j = omega arith in
      subst (λ (i : ℕ). IsCounted s xs ks start count e c i) i (subst (λ (i : ℕ). IsCounted s xs ks start count e i r.1) z r.2)

  -- ---- a name looked up by the counts
  module _ (l : InRange s) where
    in_yes : (n : Name) → is_in (records_in s xs ks start count) n ≡ true
        → (ltb n.core s.cores && ltb (n.number - tail_number ks n.core) (get_or count n.core 0)) ≡ true
    unfolding is_in
    in_yes n h =
        let r = any_mem (λ (e : Committed). same_name n (name_of e)) (records_in s xs ks start count) h in
        let q = mem_records r.0 r.1 in
        let c = q.0 in
        let e : n ≡ new_name c (get_or ks c 0 + q.1) = same_name_true n (name_of r.0) r.2 ∙ ap name_of q.2.same ∙ record_name xs ks start c q.1 in
        let i : get_or ks c 0 + q.1 - get_or ks c 0 ≡ q.1 = omega arith in
        rw (e, tail_number_lem s ks l c q.2.core, i) (and_both (lt-ltb c s.cores q.2.core) (lt-ltb q.1 (get_or count c 0) q.2.place))

    yes_in : (n : Name) → tail_number ks n.core ≤ n.number
        → (ltb n.core s.cores && ltb (n.number - tail_number ks n.core) (get_or count n.core 0)) ≡ true → is_in (records_in s xs ks start count) n ≡ true
    unfolding is_in
    yes_in n g h =
        let t = tail_number ks n.core in
        let j = n.number - t in
        let c : n.core < s.cores = ltb-true _ _ (and_left (ltb n.core s.cores) _ h) in
        let p : j < get_or count n.core 0 = ltb-true _ _ (and_right (ltb n.core s.cores) _ h) in
        let k : get_or ks n.core 0 + j ≡ n.number = omega (arith, tail_number_lem s ks l n.core c) in
        let e : name_of (record_of xs ks start n.core j) ≡ n = record_name xs ks start n.core j ∙ ap (new_name n.core) k in
        mem_any (λ (x : Committed). same_name n (name_of x)) (records_mem n.core j c p) (subst (λ (m : Name). same_name n m ≡ true) (sym e) (same_name_refl n))

    -- a name at or above its core's tail number is that of a record in the set exactly where it counts
    pub in_count : (n : Name) → tail_number ks n.core ≤ n.number
        → is_in (records_in s xs ks start count) n ≡ (ltb n.core s.cores && ltb (n.number - tail_number ks n.core) (get_or count n.core 0))
    in_count n g = bool_ext (in_yes n) (yes_in n g)

    pub met_count : (n : Name) → is_met (numbered ks) (records_in s xs ks start count) n ≡ count_met s ks count n.core n.number
    unfolding is_met count_met numbered
    met_count n =
        cases (ltb n.number (tail_number ks n.core))
        (λ t. rw t)
        (λ t. rw t (in_count n (ltb-false _ _ t)))

-- ---- lower counts
module _ (s : Shape) (before after : List ℕ) (low : (c : ℕ) → c < s.cores → get_or after c 0 ≤ get_or before c 0) where
  pub total_lower : total_count s after ≤ total_count s before
  unfolding total_count
  total_lower = total_le (λ (c : ℕ). get_or after c 0) (λ (c : ℕ). get_or before c 0) (below s.cores) (mem_each _ _ (λ c m. low c (mem_below s.cores m)))

  pub total_equal : total_count s after ≡ total_count s before → (c : ℕ) → c < s.cores → get_or after c 0 ≡ get_or before c 0
  unfolding total_count
  total_equal h c l =
      total_tight (λ (c : ℕ). get_or after c 0) (λ (c : ℕ). get_or before c 0) (below s.cores) (mem_each _ _ (λ c m. low c (mem_below s.cores m))) h c (below_mem s.cores c l)

  module _ (xs : List Extent) (ks start : List ℕ) where
    -- it is among the first so many of its core
    abbrev still_counts : Committed → Bool
    still_counts e = ltb (e.number - get_or ks e.core 0) (get_or after e.core 0)

    run_lower : (c : ℕ) → c < s.cores
        → select still_counts (run_in xs c (get_or ks c 0) (get_or start c 0) (get_or before c 0)) ≡ run_in xs c (get_or ks c 0) (get_or start c 0) (get_or after c 0)
    unfolding run_in record_in
    run_lower c h =
        select_map (λ (j : ℕ). record_in xs c (get_or ks c 0 + j) (get_or start c 0 + j)) (λ (j : ℕ). ltb j (get_or after c 0)) still_counts
        (λ j. let i : get_or ks c 0 + j - get_or ks c 0 ≡ j = omega arith in ap (λ (i : ℕ). ltb i (get_or after c 0)) i) (below (get_or before c 0))
        ∙ ap (map (λ (j : ℕ). record_in xs c (get_or ks c 0 + j) (get_or start c 0 + j))) (select_below (get_or after c 0) (get_or before c 0) (low c h))

    pub records_lower : SelectedOf (records_in s xs ks start after) (records_in s xs ks start before)
    unfolding records_in
    records_lower = (
      still_counts,
      sym (select_flat_map still_counts (λ (c : ℕ). run_in xs c (get_or ks c 0) (get_or start c 0) (get_or before c 0)) (below s.cores)
          ∙ flat_map_below _ _ s.cores run_lower),
    )

    pub records_equal : ((c : ℕ) → c < s.cores → get_or after c 0 ≡ get_or before c 0) → records_in s xs ks start after ≡ records_in s xs ks start before
    unfolding records_in
    records_equal h = flat_map_below _ _ s.cores (λ c l. ap (run_in xs c (get_or ks c 0) (get_or start c 0)) (h c l))
