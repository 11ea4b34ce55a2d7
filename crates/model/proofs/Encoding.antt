-- What is stored is read: master, descriptor, commit and data, over the one definition of their bytes.
-- Stored data never begins with the mark, so it is never taken for a descriptor or a commit.
use Prim.Native.Nat.{ℕ, zero, suc, ◌+◌, ◌*◌, ◌≤◌, ◌<◌}
use native.Mathlib.Omega.{arith}
use native.Mathlib.Nat.{div-add-mod'}
use mathlib.Core.Path.{◌≡◌, refl, ap, ◌∙◌, sym}
use mathlib.Core.Bool.{true, false, cond, ◌&&◌}
use mathlib.Core.List.{List, [], ◌∷◌, ◌++◌, map, flat_map}
use lib.ListN.{length, take, drop, get_or, length-map, length-drop, take-append-drop}
use lib.Seq.{get_or-drop, ext_get_or, length-take-le}
use lib.Dec.{eqb, ltb, leb}
use borrow.Author.Tests.{le-leb, eq-eqb, leb-true, ltb-true, eqb-true}
use Rattle.model.specs.Lists.{below, all, Each}
use Rattle.model.specs.Bytes.{Bytes, bytes, number, part, be4, block}
use Rattle.model.specs.Shape.{between}
use Rattle.model.specs.Card.{new_tail}
use Rattle.model.specs.Layout.{mark, has_head, pair_words, pair_at, pairs_in, layout_word, master_words, master_block, layout_in, shape_in, tail_in, is_tail, has_master_fields, is_master, Tag, new_tag, descriptor_words, descriptor_block, block_count, tags_in, distinct, is_tag, is_descriptor, commit_words, commit_block, stamp_in, number_named, names_from, names_in, few_names, is_commit, flag_of, escaped, unescaped}
use Rattle.model.specs.Limits.{max_number}
use Rattle.model.specs.declared.Shape.{Shape}
use Rattle.model.specs.declared.Tail.{Tail}
use Rattle.model.specs.declared.CommitLayout.{CommitLayout}
use Rattle.model.specs.declared.CommitLayout.TheVariants.{Lists, Numbers}
use Rattle.model.proofs.Lists.{cases, and_left, and_right, all_mem, mem_all, length_below, map_below, get_or_map_below, mem_below, get_or_each, mem_each, each_take}
use Rattle.model.proofs.Limits.{InRange, between_known, test_range}
use Rattle.model.proofs.Highest.{names_same}
use Rattle.model.proofs.Named.{numbers_listable}
use Rattle.model.proofs.Words.{IsByte, IsWord, word_of, length_block, bytes_number}

-- ---- pairs
module _ {A : Type 0} (f g : A → ℕ) where
  pub length_pairs : (xs : List A) → length (pair_words f g xs) ≡ 2 * length xs
  unfolding pair_words flat_map
  length_pairs [] = refl
  length_pairs (x ∷ xs) = omega (arith, length_pairs xs)

  pub each_pairs : (xs : List A) → Each (λ (x : A). IsWord (f x) × IsWord (g x)) xs → Each IsWord (pair_words f g xs)
  unfolding pair_words flat_map
  each_pairs [] h = tt
  each_pairs (x ∷ xs) h = (h.0.0, (h.0.1, each_pairs xs h.1))

  get_or_pairs : (xs : List A) (i : ℕ) (d : A) → i < length xs → (get_or (pair_words f g xs) (2 * i) 0 ≡ f (get_or xs i d)) × (get_or (pair_words f g xs) (2 * i + 1) 0 ≡ g (get_or xs i d))
  unfolding pair_words flat_map
  get_or_pairs [] i d h = absurd (omega arith)
  get_or_pairs (x ∷ xs) zero d h = (refl, refl)
  get_or_pairs (x ∷ xs) (suc i) d h =
      let e : 2 * suc i ≡ suc (suc (2 * i)) = omega arith in
      let e₁ : 2 * suc i + 1 ≡ suc (suc (2 * i + 1)) = omega arith in
      let r = get_or_pairs xs i d (omega arith) in
      (rw e r.0, rw e₁ r.1)

  module _ (make : ℕ → ℕ → A) (same : (x : A) → make (f x) (g x) ≡ x) (ws : List ℕ) (fit : Each IsWord ws) (xs : List A) (j : ℕ) (e : drop j ws ≡ pair_words f g xs) where
    -- the pair at an index, of those that stand in a block from word j on
    pub pair_of : (i : ℕ) (d : A) → i < length xs → pair_at make (block ws) (4 * j) i ≡ get_or xs i d
    unfolding pair_at
    pair_of i d h =
        let a : 4 * j + 8 * i ≡ 4 * (j + 2 * i) = omega arith in
        let b : 4 * j + 8 * i + 4 ≡ 4 * (j + (2 * i + 1)) = omega arith in
        let r = get_or_pairs xs i d h in
        rw (b, a, word_of ws fit (j + 2 * i), word_of ws fit (j + (2 * i + 1)), ← (get_or-drop j ws (2 * i) 0), ← (get_or-drop j ws (2 * i + 1) 0), e, r.0, r.1) (same (get_or xs i d))

    -- all of them
    pub pairs_of : pairs_in make (block ws) (4 * j) (length xs) ≡ xs
    unfolding pairs_in
    pairs_of =
        let d = make 0 0 in
        let l : length (map (pair_at make (block ws) (4 * j)) (below (length xs))) ≡ length xs = length-map (below (length xs)) (pair_at make (block ws) (4 * j)) ∙ length_below (length xs) in
        ext_get_or d (map (pair_at make (block ws) (4 * j)) (below (length xs))) xs l
        (λ i h. get_or_map_below (pair_at make (block ws) (4 * j)) (length xs) i d (omega arith) ∙ pair_of i d (omega arith))

-- ---- master
-- it has the tails of its cores alone
pub master_same : (y : CommitLayout) (s : Shape) (f g : ℕ → Tail) → ((c : ℕ) → c < s.cores → f c ≡ g c) → master_block y s f ≡ master_block y s g
unfolding master_block master_words
master_same y s f g h = rw (map_below f g s.cores h)

layout_small : (y : CommitLayout) → IsWord (layout_word y)
layout_small Lists = omega arith
layout_small Numbers = omega arith

layout_test : (y : CommitLayout) → (leb (layout_word y) 1 ≡ true) × (cond (eqb (layout_word y) 0) Lists Numbers ≡ y)
layout_test Lists = (refl, refl)
layout_test Numbers = (refl, refl)

pub tail_limits : (s : Shape) (t : Tail) → is_tail s t ≡ true → (1 ≤ t.number) × (t.number ≤ suc max_number) × (t.position < s.journal)
unfolding is_tail
tail_limits s t h =
    let n = between_known 1 t.number (suc max_number) (and_left _ _ h) in
    (n.0, n.1, ltb-true t.position s.journal (and_right (between 1 t.number (suc max_number)) _ h))

module _ (y : CommitLayout) {s : Shape} (l : InRange s) (tail_at : ℕ → Tail) where
  pub length_master : length (master_block y s tail_at) ≡ 128
  unfolding master_block master_words
  length_master =
      length_block _
      (omega (arith, l.few_cores, length_pairs (λ (t : Tail). t.number) (λ (t : Tail). t.position) (map tail_at (below s.cores)), length-map (below s.cores) tail_at, length_below s.cores))

  module _ (tails : (c : ℕ) → c < s.cores → is_tail s (tail_at c) ≡ true) where
    master_fit : Each IsWord (master_words y s tail_at)
    unfolding master_words
    master_fit =
        let pairs : Each (λ (t : Tail). IsWord t.number × IsWord t.position) (map tail_at (below s.cores)) =
        get_or_each _ (map tail_at (below s.cores)) (new_tail 0 0)
        (λ i h.
        let n : i < s.cores = omega (arith, length-map (below s.cores) tail_at, length_below s.cores) in
        let r = tail_limits s (tail_at i) (tails i n) in
        rw (get_or_map_below tail_at s.cores i (new_tail 0 0) n) (omega arith, omega (arith, l.short))) in (
          omega arith,
          (
            omega arith,
            (
              layout_small y,
              (
                omega (arith, l.few_cores),
                (
                  omega (arith, l.few_blocks),
                  (
                    omega (arith, l.short),
                    each_pairs (λ (t : Tail). t.number) (λ (t : Tail). t.position) (map tail_at (below s.cores)) pairs,
                  ),
                ),
              ),
            ),
          ),
        )

    master_word : (i : ℕ) → be4 (master_block y s tail_at) (4 * i) ≡ get_or (master_words y s tail_at) i 0
    unfolding master_block master_words
    master_word = word_of (master_words y s tail_at) master_fit

    pub master_shape : shape_in (master_block y s tail_at) ≡ s
    unfolding master_words shape_in
    master_shape = simp (master_word 3, master_word 4, master_word 5)

    pub master_tail : (c : ℕ) → c < s.cores → tail_in (master_block y s tail_at) c ≡ tail_at c
    unfolding master_block master_words tail_in
    master_tail c h =
        let n : length (map tail_at (below s.cores)) ≡ s.cores = length-map (below s.cores) tail_at ∙ length_below s.cores in
        pair_of (λ (t : Tail). t.number) (λ (t : Tail). t.position) new_tail (λ t. refl) (master_words y s tail_at) master_fit (map tail_at (below s.cores)) 6 refl c (new_tail 0 0) (omega arith)
        ∙ get_or_map_below tail_at s.cores c (new_tail 0 0) h

    -- the layout that it is for
    pub master_layout : layout_in (master_block y s tail_at) ≡ y
    unfolding layout_in master_words
    master_layout = rw (master_word 2) (layout_test y).1

    pub master_read : is_master (master_block y s tail_at) ≡ true
    unfolding is_master has_master_fields master_words
    master_read =
        let m = master_block y s tail_at in
        let t : all (λ (c : ℕ). is_tail s (tail_in m c)) (below s.cores) ≡ true =
        mem_all (λ (c : ℕ). is_tail s (tail_in m c)) (below s.cores) (λ c h. let n = mem_below s.cores h in ap (is_tail s) (master_tail c n) ∙ tails c n) in
        simp (master_shape, master_word 0, master_word 1, master_word 2, (layout_test y).0, test_range s l, t)

-- ---- a transaction that keeps the rules of the format: its number, the blocks that it took, its stamp, the number that it names of each core
pub record Encodable (s : Shape) (k : ℕ) (hs : List Tag) (stamp : ℕ) (named : ℕ → ℕ) : Type 0 where
  pub shape : InRange s
  pub number : k ≤ max_number
  pub few : length hs ≤ 8
  pub held : all (is_tag s) hs ≡ true
  pub apart : distinct hs ≡ true
  pub stamped : 1 ≤ stamp
  pub stamp_fits : stamp < 18446744073709551616
  pub cores : (c : ℕ) → c < 8 → s.cores ≤ c → named c ≡ 0
  pub numbers : (c : ℕ) → c < 8 → IsWord (named c)

-- ---- descriptor
pub length_descriptor : (k : ℕ) (hs : List Tag) → length hs ≤ 8 → length (descriptor_block k hs) ≡ 128
unfolding descriptor_block descriptor_words
length_descriptor k hs h = length_block _ (omega (arith, length_pairs (λ (h : Tag). h.block) (λ (h : Tag). h.flag) hs))

pub length_commit : (k stamp : ℕ) (named : ℕ → ℕ) → length (commit_block k stamp named) ≡ 128
unfolding commit_block commit_words
length_commit k stamp named = length_block _ (omega (arith, length-map (below 8) named, length_below 8))

-- it has the numbers of eight cores alone
pub commit_same : (k stamp : ℕ) (f g : ℕ → ℕ) → ((c : ℕ) → c < 8 → f c ≡ g c) → commit_block k stamp f ≡ commit_block k stamp g
unfolding commit_block commit_words
commit_same k stamp f g h = rw (map_below f g 8 h)

held_limits : (s : Shape) (h : Tag) → is_tag s h ≡ true → (h.block < s.blocks) × (h.flag ≤ 1)
unfolding is_tag
held_limits s h e = (ltb-true h.block s.blocks (and_left _ _ e), leb-true h.flag 1 (and_right (ltb h.block s.blocks) _ e))

module _ {s : Shape} {k : ℕ} {hs : List Tag} {stamp : ℕ} {named : ℕ → ℕ} (g : Encodable s k hs stamp named) where
  descriptor_fit : Each IsWord (descriptor_words k hs)
  unfolding descriptor_words
  descriptor_fit =
      let pairs : Each (λ (h : Tag). IsWord h.block × IsWord h.flag) hs = mem_each _ hs (λ h m. let r = held_limits s h (all_mem (is_tag s) hs g.held m) in (omega (arith, g.shape.few_blocks), omega arith)) in
      (omega arith, (omega arith, (omega (arith, g.number), (omega (arith, g.few), each_pairs (λ (h : Tag). h.block) (λ (h : Tag). h.flag) hs pairs))))

  descriptor_word : (i : ℕ) → be4 (descriptor_block k hs) (4 * i) ≡ get_or (descriptor_words k hs) i 0
  unfolding descriptor_block descriptor_words
  descriptor_word = word_of (descriptor_words k hs) descriptor_fit

  pub descriptor_head_lem : has_head 1 k (descriptor_block k hs) ≡ true
  unfolding has_head descriptor_words
  descriptor_head_lem = simp (descriptor_word 0, descriptor_word 1, descriptor_word 2, eq-eqb k k refl)

  pub descriptor_count : block_count (descriptor_block k hs) ≡ length hs
  unfolding block_count descriptor_words
  descriptor_count = descriptor_word 3

  pub descriptor_tags : tags_in (descriptor_block k hs) (length hs) ≡ hs
  unfolding tags_in descriptor_block descriptor_words
  descriptor_tags = pairs_of (λ (h : Tag). h.block) (λ (h : Tag). h.flag) new_tag (λ h. refl) (descriptor_words k hs) descriptor_fit hs 4 refl

  pub descriptor_read : is_descriptor s k (descriptor_block k hs) ≡ true
  unfolding is_descriptor
  descriptor_read =
      simp (descriptor_head_lem, descriptor_count, descriptor_tags, le-leb k max_number g.number, le-leb (length hs) 8 g.few, g.held, g.apart)

  named_fit : Each IsWord (map named (below 8))
  named_fit =
      get_or_each IsWord (map named (below 8)) 0
      (λ c h. let l : c < 8 = omega (arith, length-map (below 8) named, length_below 8) in rw (get_or_map_below named 8 c 0 l) (g.numbers c l))

  commit_fit : Each IsWord (commit_words k stamp (0 ∷ map named (below 8)))
  unfolding commit_words
  commit_fit = (omega arith, (omega arith, (omega (arith, g.number), (omega (arith, g.stamp_fits), (omega arith, (omega arith, named_fit))))))

  commit_word : (i : ℕ) → be4 (commit_block k stamp named) (4 * i) ≡ get_or (commit_words k stamp (0 ∷ map named (below 8))) i 0
  unfolding commit_block commit_words
  commit_word = word_of (commit_words k stamp (0 ∷ map named (below 8))) commit_fit

  pub commit_head_lem : has_head 2 k (commit_block k stamp named) ≡ true
  unfolding has_head commit_words
  commit_head_lem = simp (commit_word 0, commit_word 1, commit_word 2, eq-eqb k k refl)

  pub commit_stamp : stamp_in (commit_block k stamp named) ≡ stamp
  unfolding stamp_in commit_words
  commit_stamp = rw (commit_word 3, commit_word 4) (div-add-mod' stamp 4294967296)

  -- 'bytes 20 to 23 are written zero'
  pub commit_zero : be4 (commit_block k stamp named) 20 ≡ 0
  unfolding commit_words
  commit_zero = commit_word 5

  -- 'eight numbers of four bytes, core 0 first'
  pub commit_number : (c : ℕ) → c < 8 → number_named (commit_block k stamp named) c ≡ named c
  unfolding number_named commit_words
  commit_number c l =
      let e : 24 + 4 * c ≡ 4 * suc (suc (suc (suc (suc (suc c))))) = omega arith in
      rw e (commit_word (suc (suc (suc (suc (suc (suc c)))))) ∙ get_or_map_below named 8 c 0 l)

  pub commit_names : names_in Numbers (commit_block k stamp named) ≡ names_from named
  unfolding names_in
  commit_names = names_same (number_named (commit_block k stamp named)) named commit_number

  pub commit_read : is_commit Numbers s k (commit_block k stamp named) ≡ true
  unfolding is_commit few_names
  commit_read =
      simp (commit_head_lem, commit_stamp, commit_names, le-leb 1 stamp g.stamped, numbers_listable s named g.cores)

-- ---- blocks with another head
head_known : (type k : ℕ) (b : Bytes) → has_head type k b ≡ true → (be4 b 4 ≡ type) × (be4 b 8 ≡ k)
unfolding has_head
head_known type k b h =
    (eqb-true (be4 b 4) type (and_right (eqb (be4 b 0) mark) _ (and_left _ _ h)), eqb-true (be4 b 8) k (and_right (eqb (be4 b 0) mark && eqb (be4 b 4) type) _ h))

pub head_other : (type k type₂ k₂ : ℕ) (b : Bytes) → has_head type k b ≡ true → (type ≡ type₂ → k ≡ k₂ → ⊥) → has_head type₂ k₂ b ≡ false
head_other type k type₂ k₂ b h ne =
    let x = head_known type k b h in
    cases (has_head type₂ k₂ b) (λ h₂. let y = head_known type₂ k₂ b h₂ in absurd (ne (sym x.0 ∙ y.0) (sym x.1 ∙ y.1))) (λ h₂. h₂)

pub no_commit : (y : CommitLayout) (s : Shape) (k : ℕ) (b : Bytes) → has_head 2 k b ≡ false → is_commit y s k b ≡ false
unfolding is_commit
no_commit y s k b h = rw h

-- ---- data
module _ (b : Bytes) where
  -- stored data never begins with the mark
  pub escaped_mark : eqb (be4 (escaped b) 0) mark ≡ false
  unfolding escaped
  escaped_mark = cases (eqb (be4 b 0) mark) (λ h. unfold be4 part number in rw h) (λ h. rw (h, h))

  pub escaped_head : (type k : ℕ) → has_head type k (escaped b) ≡ false
  unfolding has_head
  escaped_head type k = rw escaped_mark

  module _ (long : 4 ≤ length b) where
    pub length_escaped : length (escaped b) ≡ length b
    unfolding escaped
    length_escaped = cases (eqb (be4 b 0) mark) (λ h. rw h (simp length-drop (omega arith))) (λ h. rw h)

    pub length_unescaped : (f : ℕ) → length (unescaped f b) ≡ length b
    unfolding unescaped bytes
    length_unescaped f = cases (eqb f 1) (λ h. rw h (simp length-drop (omega arith))) (λ h. rw h)

    pub unescaped_escaped : Each IsByte b → unescaped (flag_of b) (escaped b) ≡ b
    unfolding unescaped escaped flag_of
    unescaped_escaped f =
        let first : be4 b 0 ≡ mark → bytes 4 mark ≡ take 4 b =
        λ e. ap (bytes 4) (sym e) ∙ ap (λ (w : ℕ). bytes w (be4 b 0)) (sym (length-take-le 4 b long)) ∙ (unfold be4 part in bytes_number (take 4 b) (each_take IsByte 4 b f)) in
        cases (eqb (be4 b 0) mark) (λ h. rw h (ap (λ (x : Bytes). x ++ drop 4 b) (first (eqb-true (be4 b 0) mark h)) ∙ take-append-drop 4 b)) (λ h. rw h)
