-- Each that a commit names, looked up by the counts: the names of a list, or a number for each core. So a record stays in the model's set
-- exactly if the one before it and all that its commit names are met.
use Rattle.model.proofs.Base.{ℕ, ◌+◌, ◌-◌, min, ◌≤◌, ◌<◌, arith, ◌≡◌, refl, sym, ap, ap₂, fun_ext, ◌∙◌, Bool, true, false, ◌&&◌, ◌||◌, List, [], ◌∷◌, map}
use Rattle.model.proofs.Base.{get_or, eqb, leb, ltb, eq-eqb, ne_eqb, leb-true, leb-false, lt-ltb, le-ltb, below, all, select, Bytes}
use Rattle.model.specs.Limits.{max_names}
use Rattle.model.specs.Card.{new_name}
use Rattle.model.specs.Layout.{pair_at, pairs_in, names_from, names_in, name_count, number_named}
use Rattle.model.specs.Journal.{journal_at, names_of}
use Rattle.model.specs.Valid.{in_sequence, required, required_of, is_met, names_met}
use Rattle.model.specs.declared.Shape.{Shape}
use Rattle.model.specs.declared.Name.{Name}
use Rattle.model.specs.declared.CommitLayout.{CommitLayout}
use Rattle.model.specs.declared.CommitLayout.TheVariants.{Lists, Numbers}
use Rattle.model.proofs.Lists.{cases, and_both}
use Rattle.model.proofs.Limits.{InRange}
use Rattle.layout.specs.Loops.{every}
use Rattle.layout.proofs.Loops.{every_map}
use Rattle.journal.specs.declared.extents.Extent.{Extent}
use Rattle.journal.specs.Records.{extent_at, record_in, records_in}
use Rattle.valid.specs.Sets.{tail_number, numbered, count_met, name_met, number_met, commit_met, record_met}
use Rattle.valid.proofs.Sets.{record_of, tail_number_lem, met_count}

-- ---- a number for each core: where it is zero, nothing is asked for
module _ (f : ℕ → ℕ) (p : Name → Bool) (q : ℕ → Bool) (same : (c : ℕ) → q c ≡ (eqb (f c) 0 || p (new_name c (f c)))) where
  named_all : (cs : List ℕ) → all p (select (λ (n : Name). leb 1 n.number) (map (λ (c : ℕ). new_name c (f c)) cs)) ≡ all q cs
  unfolding all select
  named_all [] = refl
  named_all (c ∷ cs) =
      cases (leb 1 (f c))
      (λ t. rw (t, same c, ne_eqb (f c) 0 (omega (arith, leb-true 1 (f c) t)), named_all cs))
      (λ t. rw (t, same c, eq-eqb (f c) 0 (omega (arith, leb-false 1 (f c) t)), named_all cs))

  named_every : all p (names_from f) ≡ every 8 q
  unfolding names_from every
  named_every = named_all (below 8)

-- ---- a record
module _ (s : Shape) (xs : List Extent) (ks start count : List ℕ) (l : InRange s) where
  by_count : (ns : List Name) → all (is_met (numbered ks) (records_in s xs ks start count)) ns ≡ all (λ (n : Name). count_met s ks count n.core n.number) ns
  by_count ns = ap (λ (p : Name → Bool). all p ns) (fun_ext (met_count s xs ks start count l))

  commit_met_lem : (y : CommitLayout) (f : Bytes) → all (is_met (numbered ks) (records_in s xs ks start count)) (names_in y f) ≡ commit_met y s ks count f
  unfolding commit_met names_in pairs_in name_met number_met
  commit_met_lem Lists f =
      by_count (names_in Lists f)
      ∙ sym (every_map (λ (n : Name). count_met s ks count n.core n.number) (pair_at new_name f 24) (min (name_count f) max_names))
  commit_met_lem Numbers f =
      by_count (names_in Numbers f)
      ∙ named_every (number_named f) (λ (n : Name). count_met s ks count n.core n.number) (number_met s ks count f) (λ c. refl)

  -- all that a record requires: the one before it on its core, and what its commit names
  pub record_stays : (y : CommitLayout) (d : Bytes) (c j : ℕ)
      → names_met in_sequence y s d (numbered ks) (records_in s xs ks start count) (record_of xs ks start c j)
      ≡ (count_met s ks count c (get_or ks c 0 + j - 1) && record_met y s d ks count c (extent_at xs (get_or start c 0 + j)))
  unfolding names_met required_of required all names_of record_of record_in record_met
  record_stays y d c j =
      let i = get_or start c 0 + j in
      ap₂ ◌&&◌ (met_count s xs ks start count l (new_name c (get_or ks c 0 + j - 1)))
      (commit_met_lem y (journal_at s d c ((extent_at xs i).position + ((extent_at xs i).count + 1))))

  -- the one before a record that counts is met. Before a core's first it lies below the tail number; where that is 0, the number
  -- less one is the record's own.
  pub before_met : (c j : ℕ) → c < s.cores → j < get_or count c 0 → count_met s ks count c (get_or ks c 0 + j - 1) ≡ true
  unfolding count_met
  before_met c j h g =
      let k = get_or ks c 0 + j - 1 in
      let t : tail_number ks c ≡ get_or ks c 0 = tail_number_lem s ks l c h in
      cases (ltb k (tail_number ks c))
      (λ b. rw b)
      (λ b. rw b (and_both (lt-ltb c s.cores h) (lt-ltb (k - tail_number ks c) (get_or count c 0) (omega arith))))

-- ---- what the functions answer
module _ (s : Shape) (ks count : List ℕ) (c k : ℕ) where
  pub met_absent : InRange s → 8 ≤ c → false ≡ count_met s ks count c k
  unfolding count_met tail_number
  met_absent l h = rw (le-ltb c 8 h, le-ltb k 0 (omega arith), le-ltb c s.cores (omega (arith, l.few_cores)))

  module _ (n : ℕ) (e : n ≡ get_or ks c 0) (h : c < 8) where
    pub met_below : k < n → true ≡ count_met s ks count c k
    unfolding count_met tail_number
    met_below g = rw (lt-ltb c 8 h, ← e, lt-ltb k n g)

    pub met_no_core : n ≤ k → s.cores ≤ c → false ≡ count_met s ks count c k
    unfolding count_met tail_number
    met_no_core g a = rw (lt-ltb c 8 h, ← e, le-ltb k n g, le-ltb c s.cores a)

    pub met_here : (m : ℕ) → m ≡ get_or count c 0 → n ≤ k → c < s.cores → ltb (k - n) m ≡ count_met s ks count c k
    unfolding count_met tail_number
    met_here m q g a = rw (q, lt-ltb c 8 h, ← e, le-ltb k n g, lt-ltb c s.cores a)

module _ (s : Shape) (ks count : List ℕ) (f : Bytes) where
  pub name_is : (i c k : ℕ) (r : Bool) → c ≡ (pair_at new_name f 24 i).core → k ≡ (pair_at new_name f 24 i).number → r ≡ count_met s ks count c k → r ≡ name_met s ks count f i
  unfolding name_met
  name_is i c k r p q e = e ∙ rw (p, q)

  module _ (c k : ℕ) (e : k ≡ number_named f c) where
    pub number_none : k ≡ 0 → true ≡ number_met s ks count f c
    unfolding number_met
    number_none h = rw (← e, h)

    pub number_is : (k ≡ 0 → ⊥) → (r : Bool) → r ≡ count_met s ks count c k → r ≡ number_met s ks count f c
    unfolding number_met
    number_is h r q = q ∙ rw (← e, ne_eqb k 0 h)

  module _ (y : CommitLayout) (r : Bool) where
    pub list_is : y ≡ Lists → (n : ℕ) → n ≡ min (name_count f) max_names → r ≡ every n (name_met s ks count f) → r ≡ commit_met y s ks count f
    unfolding commit_met
    list_is h n l e = rw (h, commit_met, ← l) e

    pub numbers_are : y ≡ Numbers → r ≡ every 8 (number_met s ks count f) → r ≡ commit_met y s ks count f
    unfolding commit_met
    numbers_are h e = rw (h, commit_met) e

-- as they are read from the commit of a record
pub record_met_is : (y : CommitLayout) (s : Shape) (d : Bytes) (ks count : List ℕ) (c : ℕ) (x : Extent) (f : Bytes) (r : Bool)
    → f ≡ journal_at s d c (x.position + (x.count + 1)) → r ≡ commit_met y s ks count f → r ≡ record_met y s d ks count c x
unfolding record_met
record_met_is y s d ks count c x f r ef er = er ∙ rw ef
