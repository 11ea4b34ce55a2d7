-- The lowest block from a place on that a set holds: no lower one is held, and it is the bound or held itself. It is lowered with each block of each
-- record, and in the end it is the first of those held.
use Rattle.model.proofs.Base.{ℕ, zero, suc, ◌+◌, ◌≤◌, ◌<◌, min, arith, dec_lt, ◌≡◌, refl, sym, ap, ap₂, ◌∙◌, Bool, true, false}
use Rattle.std.specs.Prelude.{Some, None}
use Rattle.model.proofs.Base.{true≢false, List, [], ◌∷◌, ◌++◌, append_assoc, Memᴰ, mem_head, mem_tail, eqb}
use Rattle.model.proofs.Base.{leb, lt-ltb, le-ltb, le-leb, lt-leb, leb-true, eq-eqb, ne_eqb, get_or, flat_map, below, any, select, Bytes}
use Rattle.model.specs.Layout.{new_tag, pair_at}
use Rattle.model.specs.Journal.{journal_at, tags_of, blocks_of, took}
use Rattle.model.specs.Valid.{blocks_held}
use Rattle.model.specs.declared.Shape.{Shape}
use Rattle.model.proofs.Lists.{cases, or_left, or_right, mem_below}
use Rattle.model.proofs.Limits.{InRange}
use Rattle.model.proofs.Select.{select_mem, select_append}
use Rattle.layout.specs.Loops.{some}
use Rattle.layout.specs.Narrow.{BlocksBelow}
use Rattle.layout.proofs.Loops.{some_none, some_step}
use Rattle.journal.specs.declared.extents.Extent.{Extent}
use Rattle.journal.specs.Records.{SamePlaces, extent_at, record_in, records_in, ExtentTested, descriptor_blocks}
use Rattle.journal.proofs.Tested.{blocks_bytes}
use Rattle.images.specs.Newest.{stepped, first_of, held_from, lower_of, lower_at, lower_by, lower_in, asked_in}
use Rattle.images.proofs.Steps.{any_flat_map, blocks_some, asked_core, asked_all}

-- of those from a on and below z that p holds of the lowest is m, or it is z
pub record Lowest (a z : ℕ) (p : ℕ → Bool) (m : ℕ) : Type 0 where
  pub most : m ≤ z
  pub none : (x : ℕ) → a ≤ x → x < m → p x ≡ false
  pub held : m < z → (a ≤ m) × (p m ≡ true)

lowest_same : (a z : ℕ) (p q : ℕ → Bool) (m : ℕ) → ((x : ℕ) → p x ≡ q x) → Lowest a z p m → Lowest a z q m
lowest_same a z p q m e w =
    record { most = w.most; none = λ x h l. sym (e x) ∙ w.none x h l; held = λ l. let r = w.held l in (r.0, sym (e m) ∙ r.1) }

-- ---- one block, and one step after another
pub lower_less : (a x best : ℕ) → x < a → best ≡ lower_of a x best
unfolding lower_of
lower_less a x best h = rw (lt-leb a x h)

module _ (a x best : ℕ) (h : a ≤ x) where
  pub lower_it : x < best → x ≡ lower_of a x best
  unfolding lower_of
  lower_it l = rw (le-leb a x h, lt-ltb x best l)

  pub lower_not : best ≤ x → best ≡ lower_of a x best
  unfolding lower_of
  lower_not l = rw (le-leb a x h, le-ltb x best l)

pub lower_min : (a x best r : ℕ) → a ≤ x → r ≡ min x best → r ≡ lower_of a x best
lower_min a x best r h e =
    elim (dec_lt x best) [
      | yes l ↦ (let z : r ≡ x = omega arith in z ∙ lower_it a x best h l)
      | no g ↦ (let z : r ≡ best = omega arith in z ∙ lower_not a x best h (omega arith))
    ]

lowest_one : (a z y : ℕ) → Lowest a z (λ (x : ℕ). eqb x y) (lower_of a y z)
lowest_one a z y =
    elim (dec_lt y a) [
      | yes l ↦ rw (← lower_less a y z l) (stays (λ x h g. omega arith))
      | no g ↦ elim (dec_lt y z) [
        | yes l ↦ rw (← lower_it a y z (omega arith) l) (record { most = omega arith; none = λ x h k. ne_eqb x y (omega arith); held = λ k. (omega arith, eq-eqb y y refl) })
        | no k ↦ rw (← lower_not a y z (omega arith) (omega arith)) (stays (λ x h l. omega arith))
      ]
    ]
  where
    stays : ((x : ℕ) → a ≤ x → x < z → x ≡ y → ⊥) → Lowest a z (λ (x : ℕ). eqb x y) z
    stays f = record { most = omega arith; none = λ x h g. ne_eqb x y (f x h g); held = λ g. absurd (omega arith) }

module _ (a : ℕ) (p : ℕ → ℕ → Bool) (f : ℕ → ℕ → ℕ) (step : (i z : ℕ) → Lowest a z (p i) (f i z)) where
  after_one : (z m r n : ℕ) → Lowest a z (λ (x : ℕ). some n (λ (i : ℕ). p i x)) m → Lowest a m (p n) r
      → Lowest a z (λ (x : ℕ). some (suc n) (λ (i : ℕ). p i x)) r
  after_one z m r n w q =
      record {
        most = omega (arith, w.most, q.most);
        none = λ x h l. some_step (λ (i : ℕ). p i x) n ∙ rw (w.none x h (omega (arith, q.most)), q.none x h l);
        held = λ l.
            elim (dec_lt r m) [
              | yes h ↦ let e = q.held h in (e.0, some_step (λ (i : ℕ). p i r) n ∙ or_right (some n (λ (i : ℕ). p i r)) e.1)
              | no h ↦ let z : m ≡ r = omega (arith, q.most) in let e = w.held (omega arith) in
                  (omega (arith, e.0), some_step (λ (i : ℕ). p i r) n ∙ or_left (p n r) (ap (λ (x : ℕ). some n (λ (i : ℕ). p i x)) (sym z) ∙ e.1))
            ];
      }

  lowest_steps : (z n : ℕ) → Lowest a z (λ (x : ℕ). some n (λ (i : ℕ). p i x)) (stepped f z n)
  unfolding stepped
  lowest_steps z zero = record { most = omega arith; none = λ x h l. some_none (λ (i : ℕ). p i x); held = λ l. absurd (omega arith) }
  lowest_steps z (suc n) = after_one z (stepped f z n) (f n (stepped f z n)) n (lowest_steps z n) (step n (stepped f z n))

-- ---- the first of those held
select_none : {A : Type 0} (p : A → Bool) (xs : List A) → ((x : A) → Memᴰ x xs → p x ≡ false) → select p xs ≡ []
unfolding select
select_none p [] h = refl
select_none p (x ∷ xs) h = rw (h x (mem_head refl)) (select_none p xs (λ y m. h y (mem_tail m)))

below_split : (n b : ℕ) → b < n → (rest : List ℕ) × (below n ≡ below b ++ (b ∷ rest))
unfolding below
below_split zero b h = absurd (omega arith)
below_split (suc n) b h =
    elim (dec_lt b n) [
      | yes lt ↦ (let r = below_split n b lt in (r.0 ++ (n ∷ []), ap (λ (l : List ℕ). l ++ (n ∷ [])) r.1 ∙ append_assoc (below b) (b ∷ r.0) (n ∷ [])))
      | no ge ↦ (let z : n ≡ b = omega arith in ([], rw z))
    ]

module _ (a z : ℕ) (p : ℕ → Bool) (m : ℕ) (w : Lowest a z p m) where
  none_below : (n : ℕ) → n ≤ m → select (leb a) (select p (below n)) ≡ []
  none_below n l =
      select_none (leb a) (select p (below n))
      (λ x h.
      let r = select_mem p (below n) x h in
      cases (leb a x) (λ t. absurd (true≢false (sym r.1 ∙ w.none x (leb-true a x t) (omega (arith, mem_below n r.0))))) (λ t. t))

  first_held : a ≤ m → p m ≡ true → (rest : List ℕ) → first_of (select (leb a) (select p (below m ++ (m ∷ rest)))) ≡ Some m
  unfolding first_of select
  first_held h t rest =
      rw (select_append p (below m) (m ∷ rest), select_append (leb a) (select p (below m)) (select p (m ∷ rest)), none_below m (omega arith), t, le-leb a m h)

  lowest_some : m < z → Some m ≡ first_of (select (leb a) (select p (below z)))
  lowest_some l =
      let q = below_split z m l in
      let r = w.held l in
      sym (ap (λ (xs : List ℕ). first_of (select (leb a) (select p xs))) q.1 ∙ first_held r.0 r.1 q.0)

  lowest_none : z ≤ m → None ≡ first_of (select (leb a) (select p (below z)))
  unfolding first_of
  lowest_none g = sym (ap first_of (none_below z g))

-- ---- the blocks that records took
module _ (s : Shape) (d : Bytes) (a : ℕ) (xs : List Extent) where
  pub lower_at_lem : (f : Bytes) (i x best r : ℕ) → x ≡ (pair_at new_tag f 16 i).block → r ≡ lower_of a x best → r ≡ lower_at f a i best
  unfolding lower_at
  lower_at_lem f i x best r e h = h ∙ rw e

  pub extent_bytes : (c : ℕ) (x : Extent) (f : Bytes) → f ≡ journal_at s d c x.position → ExtentTested s d c x → InRange s → BlocksBelow 256 f x.count
  extent_bytes c x f q t l = rw q (blocks_bytes s (journal_at s d c x.position) x.count t.below l)

  pub lower_by_lem : (c : ℕ) (x : Extent) (best r : ℕ) (f : Bytes) → f ≡ journal_at s d c x.position → r ≡ stepped (lower_at f a) best x.count → r ≡ lower_by s d a c x best
  unfolding lower_by
  lower_by_lem c x best r f q z = z ∙ rw q

  lowest_in : (c k j z : ℕ) → Lowest a z (λ (x : ℕ). asked_in (took s d x) xs c k j) (lower_in s d a xs c k j z)
  unfolding asked_in took blocks_of tags_of record_in lower_by lower_at descriptor_blocks
  lowest_in c k j z =
      let f : Bytes = journal_at s d c (extent_at xs (k + j)).position in
      let n : ℕ = (extent_at xs (k + j)).count in
      lowest_same a z (λ (x : ℕ). some n (λ (i : ℕ). eqb x (pair_at new_tag f 16 i).block)) (λ (x : ℕ). any (eqb x) (descriptor_blocks f n)) (stepped (lower_at f a) z n)
      (λ x. blocks_some (eqb x) f n)
      (lowest_steps a (λ (i x : ℕ). eqb x (pair_at new_tag f 16 i).block) (lower_at f a) (λ i y. lowest_one a y (pair_at new_tag f 16 i).block) z n)

  module _ (start count : List ℕ) where
    -- with those of core c
    abbrev pub lower_core : ℕ → ℕ → ℕ
    lower_core c best = stepped (lower_in s d a xs c (get_or start c 0)) best (get_or count c 0)

    lowest_core : (c z : ℕ) → Lowest a z (λ (x : ℕ). asked_core (took s d x) xs start count c) (lower_core c z)
    lowest_core c z =
        let k : ℕ = get_or start c 0 in
        lowest_steps a (λ (j x : ℕ). asked_in (took s d x) xs c k j) (lower_in s d a xs c k) (λ j y. lowest_in c k j y) z (get_or count c 0)

    lowest_all : (ks : List ℕ) (z : ℕ) → Lowest a z (λ (x : ℕ). any (eqb x) (flat_map (blocks_of s d) (records_in s xs ks start count))) (stepped lower_core z s.cores)
    unfolding took blocks_of tags_of record_in
    lowest_all ks z =
        lowest_same a z (λ (x : ℕ). some s.cores (asked_core (took s d x) xs start count)) (λ (x : ℕ). any (eqb x) (flat_map (blocks_of s d) (records_in s xs ks start count)))
        (stepped lower_core z s.cores)
        (λ x. asked_all (took s d x) xs (λ c k i. refl) s ks start count ∙ sym (any_flat_map (eqb x) (blocks_of s d) (records_in s xs ks start count)))
        (lowest_steps a (λ (c x : ℕ). asked_core (took s d x) xs start count c) lower_core (λ c y. lowest_core c y) z s.cores)

-- ---- extents that differ in their stamps alone
stepped_same : (f g : ℕ → ℕ → ℕ) → ((i x : ℕ) → f i x ≡ g i x) → (x n : ℕ) → stepped f x n ≡ stepped g x n
unfolding stepped
stepped_same f g e x zero = refl
stepped_same f g e x (suc n) = e n (stepped f x n) ∙ ap (g n) (stepped_same f g e x n)

module _ (s : Shape) (d : Bytes) (a : ℕ) (xs zs : List Extent) (w : SamePlaces xs zs) (start count : List ℕ) where
  lower_same : (c k j z : ℕ) → lower_in s d a xs c k j z ≡ lower_in s d a zs c k j z
  unfolding lower_by
  lower_same c k j z =
      ap₂ (λ (p n : ℕ). stepped (lower_at (journal_at s d c p) a) z n) (sym (w (k + j)).0) (sym (w (k + j)).1)

  held_same : stepped (lower_core s d a xs start count) s.blocks s.cores ≡ stepped (lower_core s d a zs start count) s.blocks s.cores
  held_same =
      stepped_same _ _
      (λ c x. stepped_same _ _ (λ j z. lower_same c (get_or start c 0) j z) x (get_or count c 0))
      s.blocks s.cores

  module _ (r : ℕ) (h : r ≡ stepped (lower_core s d a xs start count) s.blocks s.cores) (ks : List ℕ) where
    pub held_some : r < s.blocks → Some r ≡ held_from s d (records_in s zs ks start count) a
    unfolding held_from blocks_held
    held_some l = lowest_some a s.blocks _ r (rw (← (h ∙ held_same)) at (lowest_all s d a zs start count ks s.blocks)) l

    pub held_none : s.blocks ≤ r → None ≡ held_from s d (records_in s zs ks start count) a
    unfolding held_from blocks_held
    held_none l = lowest_none a s.blocks _ r (rw (← (h ∙ held_same)) at (lowest_all s d a zs start count ks s.blocks)) l
