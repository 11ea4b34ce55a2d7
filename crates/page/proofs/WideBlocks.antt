-- Block numbers wider than a byte, computed. Paper 02, request (f): 'a descriptor of the expected number that names block 259 still gives end 2'.
use Prim.Native.Nat.{ℕ, ◌+◌, ◌*◌, ◌-◌, ◌^◌}
use native.Mathlib.Omega.{arith}
use mathlib.Core.Path.{◌≡◌, refl}
use mathlib.Core.Bool.{Bool, true, false, cond}
use mathlib.Core.List.{List, [], ◌∷◌, ◌++◌, map, flat_map}
use lib.ListN.{take, drop, replicate}
use Rattle.model.specs.Lists.{below}
use Rattle.model.specs.Bytes.{Bytes}
use Rattle.model.specs.Shape.{new_shape}
use Rattle.model.specs.Card.{new_tail}
use Rattle.model.specs.Layout.{descriptor_block}
use Rattle.model.specs.Journal.{journal_at, journal}
use Rattle.model.specs.Command.{refusal}
use Rattle.model.specs.JournalEnds.{lacks_descriptor, has_bad_field, read_record, end_number, record_answer, journal_end}
use Rattle.model.specs.declared.Shape.{Shape}
use Rattle.model.specs.declared.CommitLayout.{CommitLayout}
use Rattle.model.specs.declared.CommitLayout.TheVariants.{Lists, Numbers}
use Rattle.model.specs.declared.Committed.{Committed}
use Rattle.std.specs.Prelude.{Result, Err}
use Rattle.model.specs.declared.JournalEnd.{JournalEnd}
use Rattle.model.specs.declared.JournalEnd.TheVariants.{NoDescriptor, BadDescriptor}
use Rattle.page.proofs.EndCases.{journal_of, plain, record_of, number_on, Row, row, Answers, records_compute}

-- ---- whole records, with B = 9
-- record 5 of each of these lists of blocks, with the answer
unfoldable pub rows_of : List (List ℕ) → ℕ → List Row
rows_of bss answer = map (λ (bs : List ℕ). row 5 12 (record_of 5 (plain bs)) answer) bss

-- that number in that place, with seven blocks around it
unfoldable pub among : ℕ → ℕ → List ℕ
among n i = let bs : List ℕ = 0 ∷ 1 ∷ 2 ∷ 4 ∷ 5 ∷ 6 ∷ 7 ∷ [] in take i bs ++ n ∷ drop i bs

-- in each of the eight places: 259 gives 2, with 3 or B - 1 there the record is read
pub wide_places : Answers
    (rows_of (map (among 259) (below 8)) 2
    ++ rows_of (map (among 3) (below 8)) 0
    ++ rows_of (map (among 8) (below 8)) 0)
unfolding records_compute rows_of among
wide_places = (refl, refl)

-- that number alone, behind block b and before it
unfoldable pub beside : ℕ → ℕ → List (List ℕ)
beside b n = (n ∷ []) ∷ (b ∷ n ∷ []) ∷ (n ∷ b ∷ []) ∷ []

-- 259 alone, behind 3 and before it gives 2; 8 in its place is read
pub wide_beside : Answers (rows_of (beside 3 259) 2 ++ rows_of (beside 3 8) 0)
unfolding records_compute rows_of beside
wide_beside = (refl, refl)

-- ---- with B = 1, 9 and 64: the least and the most blocks that a disk may have
-- the answer to a record of that block alone, with so many home blocks, in either layout
unfoldable pub read_alone : ℕ → ℕ → ℕ × ℕ
read_alone blocks b =
    let number : CommitLayout → ℕ = λ y. number_on (new_shape 2 blocks 12) y 5 12 (record_of 5 (plain (b ∷ []))) in
    (number Lists, number Numbers)

-- block B - 1 is read; B, 256, 2^16 and 2^24 past B - 1, and the highest number give 2
unfoldable pub last_and_wider : ℕ → List ℕ
last_and_wider blocks = let b = blocks - 1 in b ∷ blocks ∷ (2 ^ 8 + b) ∷ (2 ^ 16 + b) ∷ (2 ^ 24 + b) ∷ (2 ^ 32 - 1) ∷ []

pub wide_limits :
    map (λ (blocks : ℕ). map (read_alone blocks) (last_and_wider blocks)) (1 ∷ 9 ∷ 64 ∷ []) ≡ replicate 3 ((0, 0) ∷ replicate 5 (2, 2))
unfolding records_compute read_alone last_and_wider
wide_limits = refl

-- ---- every block of such a disk. A descriptor that gives end 2 gives it on any disk, so of the disk only that block is computed.
-- the end that a descriptor of a number gives by itself; 0 where it gives none
unfoldable pub descriptor_end : Shape → ℕ → ℕ → Bytes → ℕ
descriptor_end s k left e = refusal ((lacks_descriptor k left e, 1) ∷ (has_bad_field s e, 2) ∷ [])

two_tests : (a b : Bool) (r : Result Committed JournalEnd) →
    refusal ((a, 1) ∷ (b, 2) ∷ []) ≡ 2 → (record_answer (cond a (Err NoDescriptor) (cond b (Err BadDescriptor) r))).0 ≡ 2
unfolding record_answer end_number refusal
two_tests true b r h = omega (arith, h)
two_tests false true r h = refl
two_tests false false r h = omega (arith, h)

-- wherever it stands, and whatever else the disk holds
pub descriptor_ends : (y : CommitLayout) (s : Shape) (d : Bytes) (c k p left : ℕ) (e : Bytes) → journal_at s d c p ≡ e →
    descriptor_end s k left e ≡ 2 → (record_answer (read_record y s d c k p left)).0 ≡ 2
unfolding descriptor_end read_record
descriptor_ends y s d c k p left e q h = rw q (two_tests _ _ _ h)

-- of every block b: 2^8 + b, 2^16 + b, 2^24 + b and the highest number, each alone and beside b
unfoldable pub widened : ℕ → List (List ℕ)
widened blocks = flat_map (λ (b : ℕ). flat_map (beside b) ((2 ^ 8 + b) ∷ (2 ^ 16 + b) ∷ (2 ^ 24 + b) ∷ (2 ^ 32 - 1) ∷ [])) (below blocks)

-- the ends of descriptors of these blocks, with so many home blocks
unfoldable pub ends_of : ℕ → List (List ℕ) → List ℕ
ends_of blocks bss = map (λ (bs : List ℕ). descriptor_end (new_shape 2 blocks 12) 5 12 (descriptor_block 5 (plain bs))) bss

-- all those give 2, on any disk by `descriptor_ends`, and b itself none
unfoldable pub WideEnds : ℕ → Type 0
WideEnds blocks =
    (ends_of blocks (widened blocks) ≡ replicate (12 * blocks) 2) × (ends_of blocks (map (λ (b : ℕ). b ∷ []) (below blocks)) ≡ replicate blocks 0)

pub wide_blocks : WideEnds 1 × WideEnds 9 × WideEnds 64
unfolding records_compute beside descriptor_end widened ends_of WideEnds
wide_blocks = ((refl, refl), (refl, refl), (refl, refl))

-- ---- journals of six blocks, with C = 2 and B = 4: a record of block 3, then one of block n, from each position on and round
unfoldable pub two_records : ℕ → ℕ → List Bytes
two_records n p =
    let bs = record_of 1 (plain (3 ∷ [])) ++ record_of 2 (plain (n ∷ [])) in
    drop (6 - p) bs ++ take (6 - p) bs

-- the numbers of the records read, and of the end
unfoldable pub journal_read : CommitLayout → ℕ → ℕ → List ℕ × ℕ
journal_read y n p =
    let s = new_shape 2 4 6 in
    let d = journal_of s (two_records n p) in
    (map (λ (e : Committed). e.number) (journal y s d 0 (new_tail 1 p) 6), (record_answer (journal_end y s d 0 (new_tail 1 p))).0)

unfoldable pub JournalsRead : ℕ → List ℕ × ℕ → Type 0
JournalsRead n x = (map (journal_read Lists n) (below 6) ≡ replicate 6 x) × (map (journal_read Numbers n) (below 6) ≡ replicate 6 x)

-- a second record of block 259 or 2^24 + 3 is not read and gives end 2; of block 3 it is read
pub wide_second : JournalsRead 259 (1 ∷ [], 2) × JournalsRead (2 ^ 24 + 3) (1 ∷ [], 2) × JournalsRead 3 (1 ∷ 2 ∷ [], 1)
unfolding records_compute two_records journal_read JournalsRead
wide_second = ((refl, refl), (refl, refl), (refl, refl))
