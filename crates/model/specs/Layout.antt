-- Section 'Bytes of the blocks': one definition of the bytes for storing and for reading.
use Rattle.std.specs.Prelude.{ℕ, suc, ◌+◌, ◌*◌, ◌/◌, ◌%◌, ◌^◌, min, max, Bool, true, cond, not, ◌&&◌, drop, length, replicate, ltb, leb, eqb}
use mathlib.Core.List.{List, [], ◌∷◌, ◌++◌, map, flat_map}
use Rattle.model.specs.Limits.{max_cores, max_names, max_taken, max_number}
use Rattle.model.specs.Lists.{below, all, any, select}
use Rattle.model.specs.Bytes.{Bytes, bytes, be4, block}
use Rattle.model.specs.Shape.{between, in_range}
use Rattle.model.specs.Card.{new_tail, new_name}
use Rattle.model.specs.declared.Shape.{Shape}
use Rattle.model.specs.declared.Tail.{Tail}
use Rattle.model.specs.declared.Name.{Name}
use Rattle.model.specs.declared.CommitLayout.{CommitLayout}
use Rattle.model.specs.declared.CommitLayout.TheVariants.{Lists, Numbers}

-- 'mark C03B3998 hex'
abbrev pub mark : ℕ
mark = 0xC03B3998

-- 'Every record block: 0-3 mark C03B3998 hex, 4-7 type, 8-11 number'
unfoldable pub has_head : ℕ → ℕ → Bytes → Bool
has_head type k b = eqb (be4 b 0) mark && eqb (be4 b 4) type && eqb (be4 b 8) k

-- ---- two words for each of a list: tails, blocks with their flags, the names of an older commit
module _ {A : Type 0} where
  unfoldable pub pair_words : (A → ℕ) → (A → ℕ) → List A → List ℕ
  pair_words f g xs = flat_map (λ (x : A). f x ∷ g x ∷ []) xs

  unfoldable pub pair_at : (ℕ → ℕ → A) → Bytes → ℕ → ℕ → A
  pair_at make b at i = make (be4 b (at + 8 * i)) (be4 b (at + 8 * i + 4))

  unfoldable pub pairs_in : (ℕ → ℕ → A) → Bytes → ℕ → ℕ → List A
  pairs_in make b at n = map (pair_at make b at) (below n)

-- ---- paper 02, (d): 'Bytes 8 to 11 of a new master hold 1. A disk whose master holds 0 there is still recovered by its lists'
abbrev pub layout_word : CommitLayout → ℕ
layout_word Lists = 0
layout_word Numbers = 1

-- ---- 'Master, type 4, number 0: 12-15 C, 16-19 B, 20-23 J; from 24, per core, tail number (4), tail position (4)'; since request (d) the
-- number says the layout
unfoldable pub master_words : CommitLayout → Shape → (ℕ → Tail) → List ℕ
master_words y s tail_at =
    mark ∷ 4 ∷ layout_word y ∷ s.cores ∷ s.blocks ∷ s.journal
    ∷ pair_words (λ (t : Tail). t.number) (λ (t : Tail). t.position) (map tail_at (below s.cores))

unfoldable pub master_block : CommitLayout → Shape → (ℕ → Tail) → Bytes
master_block y s tail_at = block (master_words y s tail_at)

-- 0 lists, 1 numbers; of any other value nobody asks, since it is refused before
unfoldable pub layout_in : Bytes → CommitLayout
layout_in m = cond (eqb (be4 m 8) 0) Lists Numbers

unfoldable pub shape_in : Bytes → Shape
shape_in m = record { cores = be4 m 12; blocks = be4 m 16; journal = be4 m 20 }

unfoldable pub tail_in : Bytes → ℕ → Tail
tail_in m c = pair_at new_tail m 24 c

-- 'a tail number outside 1 to 4,000,000,001 or a position not below J'
unfoldable pub is_tail : Shape → Tail → Bool
is_tail s t = between 1 t.number (suc max_number) && ltb t.position s.journal

-- the opposite of refusal 8 before request (d): 'its other bytes are not looked at'
unfoldable pub has_master_fields : Bytes → Bool
has_master_fields m =
    let s = shape_in m in
    eqb (be4 m 0) mark && eqb (be4 m 4) 4 && in_range s.cores s.blocks s.journal && all (λ (c : ℕ). is_tail s (tail_in m c)) (below s.cores)

-- the opposite of refusal 8: 'Any other value joins the conditions of refusal 8.'
unfoldable pub is_master : Bytes → Bool
is_master m = has_master_fields m && leb (be4 m 8) 1

-- ---- 'Descriptor, type 1: 12-15 block count n; from 16, per block, block number (4), flag (4)': its tags
pub record Tag : Type 0 where
  pub block : ℕ
  pub flag : ℕ

abbrev pub new_tag : ℕ → ℕ → Tag
new_tag b f = record { block = b; flag = f }

unfoldable pub descriptor_words : ℕ → List Tag → List ℕ
descriptor_words k hs = mark ∷ 1 ∷ k ∷ length hs ∷ pair_words (λ (h : Tag). h.block) (λ (h : Tag). h.flag) hs

unfoldable pub descriptor_block : ℕ → List Tag → Bytes
descriptor_block k hs = block (descriptor_words k hs)

unfoldable pub block_count : Bytes → ℕ
block_count b = be4 b 12

unfoldable pub tags_in : Bytes → ℕ → List Tag
tags_in b n = pairs_in new_tag b 16 n

-- no two of the blocks are the same
unfoldable pub distinct : List Tag → Bool
distinct [] = true
distinct (h ∷ hs) = all (λ (g : Tag). not (eqb h.block g.block)) hs && distinct hs

-- 'blocks below B, flags 0 or 1'
unfoldable pub is_tag : Shape → Tag → Bool
is_tag s h = ltb h.block s.blocks && leb h.flag 1

-- 'a descriptor with the expected number, at most 4,000,000,000, n up to 8, distinct blocks below B, flags 0 or 1'
unfoldable pub is_descriptor : Shape → ℕ → Bytes → Bool
is_descriptor s k b =
    let n = block_count b in
    has_head 1 k b && leb k max_number && leb n max_taken && all (is_tag s) (tags_in b n) && distinct (tags_in b n)

-- ---- 'Commit, type 2: 12-19 stamp', then what it names
unfoldable pub commit_words : ℕ → ℕ → List ℕ → List ℕ
commit_words k stamp rest = mark ∷ 2 ∷ k ∷ stamp / 2 ^ 32 ∷ stamp % 2 ^ 32 ∷ rest

-- 'Bytes 24 to 55 of a commit become eight numbers of four bytes, core 0 first, zero for none; bytes 20 to 23 are written zero'
unfoldable pub commit_block : ℕ → ℕ → (ℕ → ℕ) → Bytes
commit_block k stamp number = block (commit_words k stamp (0 ∷ map number (below max_cores)))

-- before request (d): '20-23 name count; from 24, per name, core (4), number (4)'
unfoldable pub list_commit_block : ℕ → ℕ → List Name → Bytes
list_commit_block k stamp ns = block (commit_words k stamp (length ns ∷ pair_words (λ (n : Name). n.core) (λ (n : Name). n.number) ns))

unfoldable pub stamp_in : Bytes → ℕ
stamp_in b = be4 b 12 * 2 ^ 32 + be4 b 16

-- of a list: '20-23 name count'
unfoldable pub name_count : Bytes → ℕ
name_count b = be4 b 20

-- 'eight numbers of four bytes, core 0 first'
unfoldable pub number_named : Bytes → ℕ → ℕ
number_named b c = be4 b (24 + 4 * c)

-- 'the highest number named for each core', 'zero for none'
unfoldable pub highest_in : List Name → ℕ → ℕ
highest_in [] c = 0
highest_in (n ∷ ns) c = max (cond (eqb c n.core) n.number 0) (highest_in ns c)

-- the names that a number for each core gives: 'zero for none'
unfoldable pub names_from : (ℕ → ℕ) → List Name
names_from number = select (λ (n : Name). leb 1 n.number) (map (λ (c : ℕ). new_name c (number c)) (below max_cores))

-- what a commit names. A list of more than 12 makes it no commit (`few_names`), so of one that is read none is left out; with numbers 'bytes
-- 20 to 23 are .. not read'
unfoldable pub names_in : CommitLayout → Bytes → List Name
names_in Lists b = pairs_in new_name b 24 (min (name_count b) max_names)
names_in Numbers b = names_from (number_named b)

-- 'up to 12 names' in a list
unfoldable pub few_names : CommitLayout → Bytes → Bool
few_names Lists b = leb (name_count b) max_names
few_names Numbers b = true

-- 'each core below C and number 1 or more'; 'A number for a core not below C is out of range'
unfoldable pub is_listable : Shape → Name → Bool
is_listable s n = ltb n.core s.cores && leb 1 n.number

-- 'a commit with that number, stamp 1 or more'
unfoldable pub is_commit : CommitLayout → Shape → ℕ → Bytes → Bool
is_commit y s k b = has_head 2 k b && leb 1 (stamp_in b) && few_names y b && all (is_listable s) (names_in y b)

-- 'the page counts the cores named, in the lists of older disks too': how many different ones
unfoldable pub cores_named : List Name → ℕ
cores_named ns = length (select (λ (c : ℕ). any (λ (n : Name). eqb c n.core) ns) (below max_cores))

-- ---- 'A data block beginning with the mark has those four bytes zeroed in the journal and flag 1'
unfoldable pub flag_of : Bytes → ℕ
flag_of b = cond (eqb (be4 b 0) mark) 1 0

unfoldable pub escaped : Bytes → Bytes
escaped b = cond (eqb (be4 b 0) mark) (replicate 4 0 ++ drop 4 b) b

-- 'wherever the flag is 1, the image read has the mark as its first four bytes'
unfoldable pub unescaped : ℕ → Bytes → Bytes
unescaped f b = cond (eqb f 1) (bytes 4 mark ++ drop 4 b) b
