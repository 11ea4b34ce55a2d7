-- Loops over records: a value after steps, in the forms in which a loop needs it; a test of some record is asked of the list of all.
use Rattle.model.proofs.Base.{ℕ, ◌+◌, ◌≤◌, ◌<◌, arith, add-one, ◌≡◌, refl, sym, ap, fun_ext, ◌∙◌, Bool, ◌||◌, List, [], ◌∷◌, map, get_or}
use Rattle.model.proofs.Base.{flat_map, below, any, Bytes}
use Rattle.model.specs.Layout.{Tag, new_tag, pair_at, pairs_in, tags_in}
use borrow.Author.Rules.{rules}
use Rattle.model.specs.declared.Shape.{Shape}
use Rattle.model.specs.declared.Committed.{Committed}
use Rattle.model.proofs.Lists.{any_append, any_map}
use Rattle.layout.specs.Loops.{some}
use Rattle.layout.proofs.Loops.{some_map}
use Rattle.journal.specs.declared.extents.Extent.{Extent}
use Rattle.journal.specs.Records.{committed_in, extent_at, record_in, run_in, records_in, SizedCommitted, RangeTested, RunTested, descriptor_blocks}
use Rattle.journal.proofs.Tested.{run_extent, extent_sized, extent_tested}
use Rattle.images.specs.Newest.{stepped, asked_in}

-- ---- a value after steps
module _ {A : Type 0} (f : ℕ → A → A) (x : A) where
  -- y is the value after i of them
  abbrev pub Stepped : ℕ → A → Type 0
  Stepped i y = y ≡ stepped f x i

  pub stepped_start : Stepped 0 x
  unfolding stepped
  stepped_start = refl

  pub stepped_more : (i : ℕ) (y r : A) → Stepped i y → r ≡ f i y → Stepped (i + 1) r
  unfolding stepped
  stepped_more i y r w e = e ∙ ap (f i) w ∙ rw add-one

  pub stepped_end : (n i : ℕ) (y : A) → Stepped i y → n ≤ i → i ≤ n → y ≡ stepped f x n
  stepped_end n i y w h g = let e : i ≡ n = omega arith in w ∙ ap (stepped f x) e

pub ruleset steps = (rules, stepped_start, stepped_more, stepped_end)

-- ---- what callees ask of the record at place a + j
module _ (s : Shape) (d : Bytes) (c : ℕ) (xs : List Extent) (a j : ℕ) (e : Committed) (q : e ≡ committed_in c 0 (extent_at xs (a + j))) (n : ℕ)
    (t : RunTested s d xs c a n) (h : j < n) where
  pub run_sized : c < s.cores → SizedCommitted s e
  run_sized l = extent_sized s d c (extent_at xs (a + j)) 0 e q (run_extent s d xs c a n t j h) l

  pub run_tested : RangeTested s d e
  run_tested = extent_tested s d c (extent_at xs (a + j)) 0 e q (run_extent s d xs c a n t j h)

-- ---- a test of some record
pub any_flat_map : {A B : Type 0} (p : B → Bool) (f : A → List B) (xs : List A) → any p (flat_map f xs) ≡ any (λ (x : A). any p (f x)) xs
unfolding any flat_map
any_flat_map p f [] = refl
any_flat_map p f (x ∷ xs) = any_append p (f x) (flat_map f xs) ∙ ap (λ (b : Bool). any p (f x) || b) (any_flat_map p f xs)

-- of the blocks of a descriptor
pub blocks_some : (p : ℕ → Bool) (f : Bytes) (n : ℕ) → some n (λ (i : ℕ). p (pair_at new_tag f 16 i).block) ≡ any p (descriptor_blocks f n)
unfolding descriptor_blocks tags_in pairs_in
blocks_some p f n =
    let q : Tag → Bool = λ h. p h.block in
    some_map q (pair_at new_tag f 16) n ∙ sym (any_map (λ (h : Tag). h.block) q p (λ h. refl) (map (pair_at new_tag f 16) (below n)))

-- of those of core c
abbrev pub asked_core : (Committed → Bool) → List Extent → List ℕ → List ℕ → ℕ → Bool
asked_core p xs start count c = some (get_or count c 0) (asked_in p xs c (get_or start c 0))

-- a test that does not look at the number
module _ (p : Committed → Bool) (xs : List Extent) (free : (c k i : ℕ) → p (record_in xs c k i) ≡ p (record_in xs c 0 i)) where
  asked_run : (c k a n : ℕ) → some n (asked_in p xs c a) ≡ any p (run_in xs c k a n)
  unfolding some asked_in run_in
  asked_run c k a n = sym (any_map (λ (j : ℕ). record_in xs c (k + j) (a + j)) (asked_in p xs c a) p (λ j. free c (k + j) (a + j)) (below n))

  pub asked_all : (s : Shape) (ks start count : List ℕ) → some s.cores (asked_core p xs start count) ≡ any p (records_in s xs ks start count)
  unfolding some records_in
  asked_all s ks start count =
      ap (λ (q : ℕ → Bool). any q (below s.cores)) (fun_ext (λ c. asked_run c (get_or ks c 0) (get_or start c 0) (get_or count c 0)))
      ∙ sym (any_flat_map p (λ (c : ℕ). run_in xs c (get_or ks c 0) (get_or start c 0) (get_or count c 0)) (below s.cores))
