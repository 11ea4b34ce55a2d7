-- Word i of a descriptor or a commit is one of its head, one of its pairs or numbers, or 0 past them, as the writers compute it; and
-- both have at most 32 words.
use Rattle.model.proofs.Base.{ℕ, zero, suc, ◌+◌, ◌-◌, ◌/◌, ◌%◌, ◌^◌, ◌≤◌, ◌<◌, min, arith, ◌≡◌, refl, sym, ap, ◌∙◌, List, [], ◌∷◌}
use Rattle.model.proofs.Base.{◌++◌, map, length, get_or, length-map, list_get_or_append, eq-eqb, ne_eqb}
use Rattle.model.proofs.Base.{flat_map, below}
use lib.ListN.{get_or-eq_default}
use lib.Seq.{get_or-append-add}
use Rattle.model.specs.Layout.{mark, pair_words, Tag, new_tag, descriptor_words, commit_words}
use Rattle.model.proofs.Lists.{length_below, get_or_map_below}
use Rattle.model.proofs.Encoding.{length_pairs}
use Rattle.layout.specs.Words.{pair_word, tags_from, descriptor_from}

-- the length of an array of structs, as its type gives it
pub length_mapped : {A B : Type 0} (f : A → B) (l : List A) (n : ℕ) → length (map f l) ≡ n → length l ≡ n
length_mapped f l n e = sym (length-map l f) ∙ e

-- ---- one of two
module _ (first second k : ℕ) where
  pub pair_first : k % 2 ≡ 0 → first ≡ pair_word first second k
  unfolding pair_word
  pair_first h = rw (eq-eqb (k % 2) 0 h)

  pub pair_second : (k % 2 ≡ 0 → ⊥) → second ≡ pair_word first second k
  unfolding pair_word
  pair_second h = rw (ne_eqb (k % 2) 0 h)

-- ---- pairs after a head
module _ {A : Type 0} (f g : A → ℕ) where
  get_or_pair : (xs : List A) (k : ℕ) (d : A) → k / 2 < length xs → get_or (pair_words f g xs) k 0 ≡ pair_word (f (get_or xs (k / 2) d)) (g (get_or xs (k / 2) d)) k
  unfolding pair_words flat_map pair_word
  get_or_pair [] k d h = absurd (omega arith)
  get_or_pair (x ∷ xs) zero d h = refl
  get_or_pair (x ∷ xs) (suc zero) d h = refl
  get_or_pair (x ∷ xs) (suc (suc k)) d h =
      let q : suc (suc k) / 2 ≡ suc (k / 2) = omega arith in
      let r : suc (suc k) % 2 ≡ k % 2 = omega arith in
      rw (q, r) (get_or_pair xs k d (omega arith))

  module _ (hs : List ℕ) (n : ℕ) (l : length hs ≡ n) (xs : List A) (i : ℕ) where
    pub word_head : i < n → get_or hs i 0 ≡ get_or (hs ++ pair_words f g xs) i 0
    word_head h = sym (list_get_or_append hs (pair_words f g xs) 0 i (omega arith))

    after : n ≤ i → get_or (hs ++ pair_words f g xs) i 0 ≡ get_or (pair_words f g xs) (i - n) 0
    after h = let e : i ≡ length hs + (i - n) = omega arith in ap (λ (k : ℕ). get_or (hs ++ pair_words f g xs) k 0) e ∙ get_or-append-add hs (pair_words f g xs) (i - n) 0

    pub word_pair : (d : A) → n ≤ i → (i - n) / 2 < length xs → pair_word (f (get_or xs ((i - n) / 2) d)) (g (get_or xs ((i - n) / 2) d)) (i - n) ≡ get_or (hs ++ pair_words f g xs) i 0
    word_pair d h q = sym (after h ∙ get_or_pair xs (i - n) d q)

    pub word_rest : n ≤ i → length xs ≤ (i - n) / 2 → 0 ≡ get_or (hs ++ pair_words f g xs) i 0
    word_rest h q = sym (after h ∙ get_or-eq_default (pair_words f g xs) 0 (omega (arith, length_pairs f g xs)))

-- ---- descriptor
length_tags_from : (n : ℕ) (bs fs : List ℕ) → length (tags_from n bs fs) ≡ n
unfolding tags_from
length_tags_from n bs fs = length-map (below n) (λ (i : ℕ). new_tag (get_or bs i 0) (get_or fs i 0)) ∙ length_below n

pub length_descriptor : (k count : ℕ) (bs fs : List ℕ) → length (descriptor_from k (min count 8) bs fs) ≤ 32
unfolding descriptor_from descriptor_words
length_descriptor k count bs fs =
    let n = min count 8 in
    omega (arith, length_pairs (λ (h : Tag). h.block) (λ (h : Tag). h.flag) (tags_from n bs fs), length_tags_from n bs fs)

-- the count that the code has is n
module _ (k n m : ℕ) (e : m ≡ n) (bs fs : List ℕ) (i : ℕ) where
  descriptor_head : List ℕ
  descriptor_head = mark ∷ 1 ∷ k ∷ length (tags_from n bs fs) ∷ []

  pub descriptor_head_lem : i < 4 → get_or (mark ∷ 1 ∷ k ∷ m ∷ []) i 0 ≡ get_or (descriptor_from k n bs fs) i 0
  unfolding descriptor_from descriptor_words descriptor_head
  descriptor_head_lem h =
      let l : m ≡ length (tags_from n bs fs) = e ∙ sym (length_tags_from n bs fs) in
      rw l (word_head (λ (h : Tag). h.block) (λ (h : Tag). h.flag) descriptor_head 4 refl (tags_from n bs fs) i h)

  pub descriptor_rest : 4 ≤ i → m ≤ (i - 4) / 2 → 0 ≡ get_or (descriptor_from k n bs fs) i 0
  unfolding descriptor_from descriptor_words descriptor_head
  descriptor_rest h q = word_rest (λ (h : Tag). h.block) (λ (h : Tag). h.flag) descriptor_head 4 refl (tags_from n bs fs) i h (omega (arith, length_tags_from n bs fs))

  pub descriptor_pair : (x a b : ℕ) → x ≡ pair_word a b (i - 4) → a ≡ get_or bs ((i - 4) / 2) 0 → b ≡ get_or fs ((i - 4) / 2) 0
      → 4 ≤ i → (i - 4) / 2 < m → x ≡ get_or (descriptor_from k n bs fs) i 0
  unfolding descriptor_from descriptor_words descriptor_head tags_from
  descriptor_pair x a b v p r h q =
      let j = (i - 4) / 2 in
      let t : get_or (tags_from n bs fs) j (new_tag 0 0) ≡ new_tag (get_or bs j 0) (get_or fs j 0) = get_or_map_below (λ (i : ℕ). new_tag (get_or bs i 0) (get_or fs i 0)) n j (new_tag 0 0) (omega arith) in
      v
      ∙ rw (p, r)
      (ap (λ (h : Tag). pair_word h.block h.flag (i - 4)) (sym t)
      ∙ word_pair (λ (h : Tag). h.block) (λ (h : Tag). h.flag) descriptor_head 4 refl (tags_from n bs fs) i (new_tag 0 0) h (omega (arith, length_tags_from n bs fs)))

-- ---- commit
module _ (k stamp : ℕ) (named : ℕ → ℕ) where
  abbrev words_of : List ℕ
  words_of = commit_words k stamp (0 ∷ map named (below 8))

  length_numbers : length (map named (below 8)) ≡ 8
  length_numbers = length-map (below 8) named ∙ length_below 8

  pub length_commit : length words_of ≤ 32
  unfolding commit_words
  length_commit = omega (arith, length_numbers)

  module _ (i : ℕ) where
    commit_head : List ℕ
    commit_head = mark ∷ 2 ∷ k ∷ stamp / 2 ^ 32 ∷ stamp % 2 ^ 32 ∷ 0 ∷ []

    pub commit_head_lem : i < 6 → get_or (mark ∷ 2 ∷ k ∷ stamp / 4294967296 ∷ stamp % 4294967296 ∷ 0 ∷ []) i 0 ≡ get_or words_of i 0
    unfolding commit_words commit_head
    commit_head_lem h = sym (list_get_or_append commit_head (map named (below 8)) 0 i h)

    commit_tail : 6 ≤ i → get_or (map named (below 8)) (i - 6) 0 ≡ get_or words_of i 0
    unfolding commit_words commit_head
    commit_tail h =
        let e : i ≡ 6 + (i - 6) = omega arith in
        sym (ap (λ (j : ℕ). get_or words_of j 0) e ∙ get_or-append-add commit_head (map named (below 8)) (i - 6) 0)

    commit_named : 6 ≤ i → i < 14 → named (i - 6) ≡ get_or words_of i 0
    commit_named h l = sym (get_or_map_below named 8 (i - 6) 0 (omega arith)) ∙ commit_tail h

    pub commit_rest : 14 ≤ i → 0 ≡ get_or words_of i 0
    commit_rest h = sym (get_or-eq_default (map named (below 8)) 0 (omega (arith, length_numbers))) ∙ commit_tail (omega arith)

-- of an array
pub commit_number : (k stamp : ℕ) (ns : List ℕ) (i : ℕ) → 6 ≤ i → i < 14
    → get_or ns (i - 6) 0 ≡ get_or (commit_words k stamp (0 ∷ map (λ (c : ℕ). get_or ns c 0) (below 8))) i 0
commit_number k stamp ns = commit_named k stamp (λ (c : ℕ). get_or ns c 0)
