-- Where a block stands among those that a transaction took, and whether it took it.
use Rattle.model.proofs.Base.{ℕ, suc, ◌≤◌, ◌<◌, arith, dec_lt, ◌≡◌, refl, sym, ap, ◌∙◌, Bool, true, false, cond, List, [], ◌∷◌, map, length}
use Rattle.model.proofs.Base.{get_or, length-map, list_get_or_map, eqb, ltb, ltb-true, lt-ltb, le-ltb, below, any, Bytes}
use Rattle.model.specs.Layout.{Tag, new_tag, pair_at, pairs_in, tags_in}
use Rattle.model.specs.Journal.{journal_at, tags_of, blocks_of, took}
use Rattle.model.specs.Recovery.{place_of}
use Rattle.model.specs.declared.Shape.{Shape}
use Rattle.model.specs.declared.Committed.{Committed}
use Rattle.model.proofs.Lists.{cases, length_below, get_or_map_below}
use Rattle.model.proofs.Records.{length_blocks_of}
use Rattle.layout.proofs.Ranges.{range_below}
use Rattle.std.specs.Prelude.{Option, Some, None}
use Rattle.std.specs.List.{range_with_len, position_or_len}
use Rattle.std.specs.Option.{is_some}
use Rattle.journal.specs.Records.{descriptor_blocks, place_among}

-- ---- the place of a block
length_descriptor : (f : Bytes) (n : ℕ) → length (descriptor_blocks f n) ≡ n
unfolding descriptor_blocks tags_in pairs_in
length_descriptor f n = simp (length-map, length_below)

pub block_at : (f : Bytes) (n i : ℕ) → i < n → get_or (descriptor_blocks f n) i 0 ≡ (pair_at new_tag f 16 i).block
unfolding descriptor_blocks tags_in pairs_in
block_at f n i h = list_get_or_map (λ (x : Tag). x.block) (map (pair_at new_tag f 16) (below n)) i (new_tag 0 0) ∙ rw (get_or_map_below (pair_at new_tag f 16) n i (new_tag 0 0) h)

-- the place of block b among the first n of descriptor f, as `position` finds it
abbrev pub is_block : Bytes → ℕ → ℕ → Bool
is_block f b i = eqb b (pair_at new_tag f 16 i).block

pub position_place : (f : Bytes) (b : ℕ) (xs : List ℕ) → position_or_len (is_block f b) xs ≡ place_of b (map (λ (h : Tag). h.block) (map (pair_at new_tag f 16) xs))
unfolding place_of
position_place f b [] = refl
position_place f b (x ∷ xs) = cases (eqb b (pair_at new_tag f 16 x).block) (λ h. rw h) (λ h. rw h (omega (arith, position_place f b xs)))

-- it took the block where that has a place
place_any : (b : ℕ) (xs : List ℕ) → ltb (place_of b xs) (length xs) ≡ any (eqb b) xs
unfolding place_of any
place_any b [] = refl
place_any b (x ∷ xs) =
    cases (eqb b x)
    (λ h. rw h (lt-ltb 0 (suc (length xs)) (omega arith)))
    (λ h. rw h (later_place (place_of b xs) (length xs) ∙ place_any b xs))
  where
    later_place : (m n : ℕ) → ltb (suc m) (suc n) ≡ ltb m n
    later_place m n = elim (dec_lt m n) [
      | yes l ↦ lt-ltb (suc m) (suc n) (omega arith) ∙ sym (lt-ltb m n l)
      | no g ↦ let h : n ≤ m = omega arith in le-ltb (suc m) (suc n) (omega arith) ∙ sym (le-ltb m n h)
    ]

pub place_found : (f : Bytes) (n b : ℕ) (r : Option ℕ)
    → r ≡ cond (ltb (position_or_len (is_block f b) (range_with_len 0 n)) (length (range_with_len 0 n))) (Some (position_or_len (is_block f b) (range_with_len 0 n))) None
    → r ≡ place_among b (descriptor_blocks f n)
unfolding place_among descriptor_blocks tags_in pairs_in
place_found f n b r e =
    let bs = descriptor_blocks f n in
    let z : position_or_len (is_block f b) (range_with_len 0 n) ≡ place_of b bs =
    ap (position_or_len (is_block f b)) (range_below n) ∙ position_place f b (below n) in
    let l : length (range_with_len 0 n) ≡ length bs = ap length (range_below n) ∙ length_below n ∙ sym (length_descriptor f n) in
    e ∙ rw (z, l, place_any b bs)

pub place_is : (s : Shape) (d : Bytes) (e : Committed) (b : ℕ) (r : Option ℕ) (f : Bytes) → f ≡ journal_at s d e.core e.position
    → r ≡ place_among b (descriptor_blocks f e.count) → r ≡ place_among b (blocks_of s d e)
unfolding descriptor_blocks blocks_of tags_of
place_is s d e b r f q h = h ∙ rw q

-- ---- a place found, and none
module _ (s : Shape) (d : Bytes) (e : Committed) (b : ℕ) (r : Option ℕ) (h : r ≡ place_among b (blocks_of s d e)) where
  pub took_is : is_some r ≡ took s d b e
  unfolding took place_among
  took_is = ap is_some h ∙ cases (any (eqb b) (blocks_of s d e)) (λ t. rw t) (λ t. rw t)

  pub took_none : r ≡ None → took s d b e ≡ false
  unfolding took place_among
  took_none z = cases (any (eqb b) (blocks_of s d e)) (λ t. let q : None ≡ Some (place_of b (blocks_of s d e)) = sym z ∙ h ∙ rw t in cc) (λ t. t)

  module _ (i : ℕ) (z : r ≡ Some i) where
    pub took_some : took s d b e ≡ true
    unfolding took place_among
    took_some = cases (any (eqb b) (blocks_of s d e)) (λ t. t) (λ t. let q : ◌≡◌ {A = Option ℕ} (Some i) None = sym z ∙ h ∙ rw t in cc)

    pub took_place : i ≡ place_of b (blocks_of s d e)
    unfolding took place_among
    took_place = let q : Some i ≡ Some (place_of b (blocks_of s d e)) = sym z ∙ h ∙ rw took_some in cc

    pub took_within : i < e.count
    unfolding took
    took_within = omega (arith, took_place, length_blocks_of s d e, ltb-true _ _ (place_any b (blocks_of s d e) ∙ took_some))
