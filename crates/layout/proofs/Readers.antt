-- What the readers answer is what the definitions ask: all pairs of a descriptor in range and distinct, the stamp of a commit of its
-- two words, all that it names in range, in either layout.
use Rattle.model.proofs.Base.{ℕ, zero, suc, ◌+◌, ◌*◌, ◌≤◌, ◌<◌, min, arith, ◌≡◌, refl, sym, ap, ap₂, ◌∙◌, Bool, true, false, false≢true, not, ◌&&◌, List}
use Rattle.model.proofs.Base.{[], ◌∷◌, ◌++◌, map-append, eqb, leb, lt-ltb, le-ltb, le-leb, lt-leb, not-true, not-false, below, all, Bytes}
use native.Mathlib.Decide.{dec_lt}
use borrow.Author.Tests.{eqb-true}
use Rattle.model.specs.Bytes.{be4}
use Rattle.model.specs.Card.{new_name}
use Rattle.model.specs.Layout.{Tag, new_tag, pair_at, pairs_in, tags_in, distinct, is_tag, block_count, has_head, is_listable, names_in, few_names}
use Rattle.model.specs.Layout.{name_count, number_named, stamp_in, is_commit}
use Rattle.model.specs.Limits.{max_taken, max_names}
use Rattle.model.specs.JournalEnds.{has_bad_field}
use Rattle.model.specs.declared.Shape.{Shape}
use Rattle.model.specs.declared.CommitLayout.{CommitLayout}
use Rattle.model.specs.declared.CommitLayout.TheVariants.{Lists, Numbers}
use Rattle.model.proofs.Lists.{cases, mem_all, all_mem, all_append, mem_below, below_mem}
use Rattle.model.proofs.Named.{numbers_listable, listable_numbers}
use Rattle.layout.specs.Loops.{every}
use Rattle.layout.specs.Distinct.{tag_at, is_other, is_new}
use Rattle.layout.specs.Named.{number_fits}
use Rattle.layout.proofs.Loops.{every_none, every_map, every_step}

-- ---- descriptor
-- the blocks are distinct where each is none of those before it
unlike : Tag → Tag → Bool
unlike h g = not (eqb g.block h.block)

shuffle : (a b c d : Bool) → ((a && (b && true)) && (c && d)) ≡ ((a && c) && (b && d))
shuffle true true true d = refl
shuffle true true false d = refl
shuffle true false true d = refl
shuffle true false false d = refl
shuffle false b c d = refl

distinct_step : (xs : List Tag) (x : Tag) → distinct (xs ++ (x ∷ [])) ≡ (distinct xs && all (unlike x) xs)
unfolding distinct all unlike
distinct_step [] x = refl
distinct_step (y ∷ ys) x =
    ap₂ ◌&&◌ (all_append (λ (g : Tag). not (eqb y.block g.block)) ys (x ∷ [])) (distinct_step ys x)
    ∙ shuffle (all (λ (g : Tag). not (eqb y.block g.block)) ys) (not (eqb y.block x.block)) (distinct ys) (all (unlike x) ys)

distinct_none : (b : Bytes) → true ≡ distinct (tags_in b 0)
unfolding distinct tags_in pairs_in below
distinct_none b = refl

held_step : (b : Bytes) (n : ℕ) → tags_in b (suc n) ≡ tags_in b n ++ (tag_at b n ∷ [])
unfolding tags_in pairs_in below
held_step b n = map-append (pair_at new_tag b 16) (below n) (n ∷ [])

new_all : (b : Bytes) (n : ℕ) → is_new b n ≡ all (unlike (tag_at b n)) (tags_in b n)
unfolding tags_in pairs_in is_new is_other unlike
new_all b n = every_map (unlike (tag_at b n)) (pair_at new_tag b 16) n

distinct_every : (b : Bytes) (n : ℕ) → distinct (tags_in b n) ≡ every n (is_new b)
distinct_every b zero = sym (distinct_none b) ∙ sym (every_none (is_new b))
distinct_every b (suc n) =
    ap distinct (held_step b n)
    ∙ distinct_step (tags_in b n) (tag_at b n)
    ∙ ap₂ ◌&&◌ (distinct_every b n) (sym (new_all b n))
    ∙ sym (every_step (is_new b) n)

-- a bad field, from what the calls answered for the descriptor's count of blocks
module _ (s : Shape) (b : Bytes) (n : ℕ) (l : n ≡ block_count b) where
  pub bad_count : max_taken < n → true ≡ has_bad_field s b
  unfolding has_bad_field
  bad_count h = rw (lt-ltb max_taken (block_count b) (omega arith))

  module _ (h : n ≤ max_taken) (r : Bool) (e : r ≡ every n (λ (i : ℕ). is_tag s (pair_at new_tag b 16 i))) where
    tags_same : r ≡ all (is_tag s) (tags_in b (block_count b))
    unfolding tags_in pairs_in
    tags_same = e ∙ every_map (is_tag s) (pair_at new_tag b 16) n ∙ ap (λ (k : ℕ). all (is_tag s) (tags_in b k)) l

    pub bad_tags : not r ≡ true → true ≡ has_bad_field s b
    unfolding has_bad_field
    bad_tags z = rw (le-ltb max_taken (block_count b) (omega arith), ← tags_same, not-true r z)

    pub bad_twice : not r ≡ false → (q : Bool) → q ≡ every n (is_new b) → not q ≡ has_bad_field s b
    unfolding has_bad_field
    bad_twice z q y =
        let w : q ≡ distinct (tags_in b (block_count b)) = y ∙ sym (distinct_every b n) ∙ ap (λ (k : ℕ). distinct (tags_in b k)) l in
        rw (le-ltb max_taken (block_count b) (omega arith), ← tags_same, not-false r z, w)

-- ---- commit
pub stamp_is : (b : Bytes) (x y : ℕ) → x ≡ be4 b 12 → y ≡ be4 b 16 → x * 4294967296 + y ≡ stamp_in b
unfolding stamp_in
stamp_is b x y e q = rw (e, q)

-- a list in range, from what the calls answered for its count of names
module _ (s : Shape) (b : Bytes) (n : ℕ) (l : n ≡ name_count b) where
  pub list_long : max_names < n → false ≡ (few_names Lists b && all (is_listable s) (names_in Lists b))
  unfolding few_names
  list_long h = rw (lt-leb (name_count b) max_names (omega arith))

  pub list_short : n ≤ max_names → (r : Bool) → r ≡ every n (λ (i : ℕ). is_listable s (pair_at new_name b 24 i))
      → r ≡ (few_names Lists b && all (is_listable s) (names_in Lists b))
  unfolding few_names names_in pairs_in
  list_short h r e =
      let k : n ≡ min (name_count b) max_names = omega arith in
      rw (le-leb (name_count b) max_names (omega arith))
      (e ∙ every_map (is_listable s) (pair_at new_name b 24) n ∙ ap (λ (k : ℕ). all (is_listable s) (pairs_in new_name b 24 k)) k)

-- numbers in range
module _ (s : Shape) (b : Bytes) where
  module _ (c : ℕ) where
    pub number_here : c < s.cores → true ≡ number_fits s b c
    unfolding number_fits
    number_here h = rw (lt-ltb c s.cores h)

    pub number_none : (x : ℕ) → x ≡ number_named b c → s.cores ≤ c → eqb x 0 ≡ number_fits s b c
    unfolding number_fits
    number_none x e h = rw (le-ltb c s.cores h, e)

    number_known : number_fits s b c ≡ true → s.cores ≤ c → number_named b c ≡ 0
    unfolding number_fits
    number_known t h = eqb-true (number_named b c) 0 (rw (le-ltb c s.cores h) at t)

    known_number : (s.cores ≤ c → number_named b c ≡ 0) → number_fits s b c ≡ true
    known_number h = elim (dec_lt c s.cores) [ yes l ↦ sym (number_here l) | no g ↦ sym (number_none 0 (sym (h (omega arith))) (omega arith)) ]

  numbers_same : every 8 (number_fits s b) ≡ all (is_listable s) (names_in Numbers b)
  unfolding every names_in
  numbers_same =
      cases (all (is_listable s) (names_in Numbers b))
      (λ t. mem_all (number_fits s b) (below 8) (λ c m. known_number c (λ g. listable_numbers s (number_named b) t c (mem_below 8 m) g)) ∙ sym t)
      (λ t.
      cases (every 8 (number_fits s b))
      (λ q.
      absurd (false≢true (sym t ∙ numbers_listable s (number_named b) (λ c l g. number_known c (all_mem (number_fits s b) (below 8) q (below_mem 8 c l)) g))))
      (λ q. q ∙ sym t))

-- what it names, by its layout
module _ (y : CommitLayout) (s : Shape) (b : Bytes) (r : Bool) where
  pub names_listed : y ≡ Lists → r ≡ (few_names Lists b && all (is_listable s) (names_in Lists b)) → r ≡ (few_names y b && all (is_listable s) (names_in y b))
  names_listed h e = rw h e

  pub names_numbered : y ≡ Numbers → r ≡ every 8 (number_fits s b) → r ≡ (few_names y b && all (is_listable s) (names_in y b))
  unfolding few_names
  names_numbered h e = rw h (e ∙ numbers_same s b)

-- the conditions before what it names hold
pub commit_fits : (y : CommitLayout) (s : Shape) (k : ℕ) (b : Bytes) (g r : Bool) (x : ℕ) → g ≡ has_head 2 k b → not g ≡ false → x ≡ stamp_in b → 1 ≤ x
    → r ≡ (few_names y b && all (is_listable s) (names_in y b)) → r ≡ is_commit y s k b
unfolding is_commit
commit_fits y s k b g r x e h q l z =
    let t : leb 1 (stamp_in b) ≡ true = le-leb 1 (stamp_in b) (omega arith) in
    z ∙ rw (sym e ∙ not-false g h, t)
