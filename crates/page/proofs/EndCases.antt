-- Ends that are computed, with commits of both layouts: of one record, row by row, and of journals.
use Prim.Native.Nat.{ℕ, ◌+◌, ◌*◌, ◌-◌, ◌^◌}
use mathlib.Core.Path.{◌≡◌, refl}
use mathlib.Core.List.{List, [], ◌∷◌, ◌++◌, map, flat_map}
use lib.ListN.{length, get_or, replicate}
use Rattle.model.specs.Limits.{block_size}
use Rattle.model.specs.Lists.{below}
use Rattle.model.specs.Bytes.{Bytes, block}
use Rattle.model.specs.Shape.{new_shape}
use Rattle.model.specs.Card.{new_tail, new_name}
use Rattle.model.specs.Layout.{mark, Tag, new_tag, descriptor_block, commit_block, list_commit_block}
use Rattle.model.specs.JournalEnds.{read_record, record_answer, journal_end}
use Rattle.model.specs.declared.Shape.{Shape}
use Rattle.model.specs.declared.Tail.{Tail}
use Rattle.model.specs.declared.Name.{Name}
use Rattle.model.specs.declared.CommitLayout.{CommitLayout}
use Rattle.model.specs.declared.CommitLayout.TheVariants.{Lists, Numbers}
use Rattle.model.proofs.Computes.{computes}

-- ---- disks: zero up to core 0's journal, then the blocks that stand there from position 0 on. The definitions take bytes of any length,
-- so a disk ends here with the last block that matters.
unfoldable pub journal_of : Shape → List Bytes → Bytes
journal_of s bs = replicate (block_size * (1 + s.blocks)) 0 ++ flat_map (λ (b : Bytes). b) bs

abbrev zero_block : Bytes
zero_block = replicate block_size 0

-- these blocks with flag 0
unfoldable pub plain : List ℕ → List Tag
plain bs = map (λ (b : ℕ). new_tag b 0) bs

-- a commit of these numbers, core 0 first
unfoldable pub committing : ℕ → ℕ → List ℕ → Bytes
committing k stamp ns = commit_block k stamp (λ (c : ℕ). get_or ns c 0)

-- a record: descriptor, data, and a commit that names nothing, in either layout
unfoldable pub record_of : ℕ → List Tag → List Bytes
record_of k hs = descriptor_block k hs ∷ replicate (length hs) zero_block ++ committing k 1 [] ∷ []

-- record 5 of block 3: with that count in its descriptor, with that block as its commit, with these names
unfoldable pub counting : ℕ → List Bytes
counting n = block (mark ∷ 1 ∷ 5 ∷ n ∷ 3 ∷ 0 ∷ []) ∷ zero_block ∷ committing 5 1 [] ∷ []

unfoldable pub ended_by : Bytes → List Bytes
ended_by f = descriptor_block 5 (plain (3 ∷ [])) ∷ zero_block ∷ f ∷ []

unfoldable pub naming : List Name → List Bytes
naming ns = ended_by (list_commit_block 5 1 ns)

-- with these numbers, core 0 first
unfoldable pub numbering : List ℕ → List Bytes
numbering ks = ended_by (committing 5 1 ks)

-- ---- one record, read at position 0 of core 0's journal: the number of the answer, 0 for the record
unfoldable pub number_on : Shape → CommitLayout → ℕ → ℕ → List Bytes → ℕ
number_on s y k left bs = (record_answer (read_record y s (journal_of s bs) 0 k 0 left)).0

-- with C = 2, B = 9, J = 12
abbrev pub nine_blocks : Shape
nine_blocks = new_shape 2 9 12

abbrev pub number_read : CommitLayout → ℕ → ℕ → List Bytes → ℕ
number_read = number_on nine_blocks

-- the number expected, the blocks left, what stands there, and the number that is answered
pub record Row : Type 0 where
  pub expected : ℕ
  pub left : ℕ
  pub blocks : List Bytes
  pub answer : ℕ

abbrev pub row : ℕ → ℕ → List Bytes → ℕ → Row
row k left bs answer = record { expected = k; left = left; blocks = bs; answer = answer }

unfoldable pub AnswersBy : CommitLayout → List Row → Type 0
AnswersBy y rows = map (λ (r : Row). number_read y r.expected r.left r.blocks) rows ≡ map (λ (r : Row). r.answer) rows

-- in either layout
unfoldable pub Answers : List Row → Type 0
Answers rows = AnswersBy Lists rows × AnswersBy Numbers rows

unfoldable pub records_compute : Unit {0}
unfolding computes journal_of plain committing record_of counting ended_by naming numbering number_on AnswersBy Answers
records_compute = tt

-- none, one, n + 1 and n + 2 blocks left, with n = 2, 0 and 8
pub ends_left : Answers
    (row 5 0 (record_of 5 (plain (3 ∷ 4 ∷ []))) 1
    ∷ row 5 1 (record_of 5 (plain (3 ∷ 4 ∷ []))) 3
    ∷ row 5 3 (record_of 5 (plain (3 ∷ 4 ∷ []))) 3
    ∷ row 5 4 (record_of 5 (plain (3 ∷ 4 ∷ []))) 0
    ∷ row 5 0 (record_of 5 []) 1
    ∷ row 5 1 (record_of 5 []) 3
    ∷ row 5 2 (record_of 5 []) 0
    ∷ row 5 9 (record_of 5 (plain (below 8))) 3
    ∷ row 5 10 (record_of 5 (plain (below 8))) 0
    ∷ [])
unfolding records_compute
ends_left = (refl, refl)

-- the number expected at its limit and one above, whatever stands there; then nothing there; then mark, type and number
pub ends_descriptor : Answers
    (row 4000000000 2 (record_of 4000000000 []) 0
    ∷ row 4000000001 2 (record_of 4000000001 []) 1
    ∷ row 4000000001 2 (zero_block ∷ []) 1
    ∷ row 5 12 (zero_block ∷ []) 1
    ∷ row 5 2 (record_of 5 []) 0
    ∷ row 5 2 (block (0xC03B3999 ∷ 1 ∷ 5 ∷ []) ∷ committing 5 1 [] ∷ []) 1
    ∷ row 5 2 (block (mark ∷ 2 ∷ 5 ∷ []) ∷ committing 5 1 [] ∷ []) 1
    ∷ row 5 2 (record_of 4 []) 1
    ∷ row 5 2 (record_of 6 []) 1
    ∷ [])
unfolding records_compute
ends_descriptor = (refl, refl)

-- the count: eight, nine, and numbers whose low byte is in range or whose entries no block could hold
pub ends_count : Answers
    (row 5 12 (record_of 5 (plain (below 8))) 0
    ∷ row 5 12 (record_of 5 (plain (below 9))) 2
    ∷ row 5 12 (counting 1) 0
    ∷ row 5 12 (counting 256) 2
    ∷ row 5 12 (counting 257) 2
    ∷ row 5 12 (counting 4294967295) 2
    ∷ [])
unfolding records_compute
ends_count = (refl, refl)

-- blocks: 0, B - 1 and B, and the last of eight; numbers wider than a byte are in `WideBlocks`
pub ends_blocks : Answers
    (row 5 12 (record_of 5 (plain (0 ∷ []))) 0
    ∷ row 5 12 (record_of 5 (plain (8 ∷ []))) 0
    ∷ row 5 12 (record_of 5 (plain (9 ∷ []))) 2
    ∷ row 5 12 (record_of 5 (plain (0 ∷ 1 ∷ 2 ∷ 3 ∷ 4 ∷ 5 ∷ 6 ∷ 8 ∷ []))) 0
    ∷ row 5 12 (record_of 5 (plain (0 ∷ 1 ∷ 2 ∷ 3 ∷ 4 ∷ 5 ∷ 6 ∷ 9 ∷ []))) 2
    ∷ [])
unfolding records_compute
ends_blocks = (refl, refl)

-- flags: 0, 1, 2, and one whose low byte is 1; then a block twice
pub ends_flags : Answers
    (row 5 12 (record_of 5 (new_tag 3 0 ∷ [])) 0
    ∷ row 5 12 (record_of 5 (new_tag 3 1 ∷ [])) 0
    ∷ row 5 12 (record_of 5 (new_tag 3 2 ∷ [])) 2
    ∷ row 5 12 (record_of 5 (new_tag 3 257 ∷ [])) 2
    ∷ row 5 12 (record_of 5 (new_tag 3 1 ∷ new_tag 4 2 ∷ [])) 2
    ∷ row 5 12 (record_of 5 (new_tag 3 0 ∷ new_tag 4 0 ∷ [])) 0
    ∷ row 5 12 (record_of 5 (new_tag 3 0 ∷ new_tag 3 0 ∷ [])) 2
    ∷ row 5 12 (record_of 5 (new_tag 3 0 ∷ new_tag 3 1 ∷ [])) 2
    ∷ row 5 12 (record_of 5 (plain (0 ∷ 1 ∷ 2 ∷ 3 ∷ 4 ∷ 5 ∷ 6 ∷ 0 ∷ []))) 2
    ∷ [])
unfolding records_compute
ends_flags = (refl, refl)

-- the commit: its mark, type, number and stamp; one that stands a block too early
pub ends_commit : Answers
    (row 5 12 (ended_by (committing 5 1 [])) 0
    ∷ row 5 12 (ended_by zero_block) 4
    ∷ row 5 12 (ended_by (block (0xC03B3999 ∷ 2 ∷ 5 ∷ 0 ∷ 1 ∷ []))) 4
    ∷ row 5 12 (ended_by (block (mark ∷ 1 ∷ 5 ∷ 0 ∷ 1 ∷ []))) 4
    ∷ row 5 12 (ended_by (committing 4 1 [])) 4
    ∷ row 5 12 (ended_by (committing 6 1 [])) 4
    ∷ row 5 12 (ended_by (committing 5 0 [])) 4
    ∷ row 5 12 (ended_by (committing 5 (2 ^ 32) [])) 0
    ∷ row 5 12 (ended_by (committing 5 (2 ^ 64 - 1) [])) 0
    ∷ row 5 12 (descriptor_block 5 (plain (3 ∷ [])) ∷ committing 5 1 [] ∷ zero_block ∷ []) 4
    ∷ [])
unfolding records_compute
ends_commit = (refl, refl)

-- the names of its list: twelve, thirteen, and more than a block could hold; core C - 1, C, and one whose low byte is below C; number 0, the highest,
-- 0 in the twelfth name; past the count none is looked at
pub ends_names : AnswersBy Lists
    (row 5 12 (naming (map (λ (i : ℕ). new_name 1 (i + 1)) (below 12))) 0
    ∷ row 5 12 (naming (map (λ (i : ℕ). new_name 1 (i + 1)) (below 13))) 4
    ∷ row 5 12 (ended_by (block (mark ∷ 2 ∷ 5 ∷ 0 ∷ 1 ∷ 4294967295 ∷ 1 ∷ 7 ∷ []))) 4
    ∷ row 5 12 (naming (new_name 1 7 ∷ [])) 0
    ∷ row 5 12 (naming (new_name 2 7 ∷ [])) 4
    ∷ row 5 12 (naming (new_name 256 7 ∷ [])) 4
    ∷ row 5 12 (naming (new_name 1 0 ∷ [])) 4
    ∷ row 5 12 (naming (new_name 1 4294967295 ∷ [])) 0
    ∷ row 5 12 (naming (map (λ (i : ℕ). new_name 1 (11 - i)) (below 12))) 4
    ∷ row 5 12 (ended_by (block (mark ∷ 2 ∷ 5 ∷ 0 ∷ 1 ∷ 0 ∷ 2 ∷ 0 ∷ []))) 0
    ∷ [])
unfolding records_compute
ends_names = refl

-- its numbers, with C = 2: none, those of the first two cores from 1 to the highest; one for core C, one whose low byte is 0, one for a core
-- behind, for the last; bytes 20 to 23 and those behind the numbers are not looked at; the stamp is, as ever
pub ends_numbers : AnswersBy Numbers
    (row 5 12 (numbering (replicate 8 0)) 0
    ∷ row 5 12 (numbering (1 ∷ [])) 0
    ∷ row 5 12 (numbering (4000000001 ∷ 4294967295 ∷ [])) 0
    ∷ row 5 12 (numbering (0 ∷ 0 ∷ 1 ∷ [])) 4
    ∷ row 5 12 (numbering (7 ∷ 7 ∷ 256 ∷ [])) 4
    ∷ row 5 12 (numbering (7 ∷ 7 ∷ 0 ∷ 0 ∷ 1 ∷ [])) 4
    ∷ row 5 12 (numbering (0 ∷ 0 ∷ 0 ∷ 0 ∷ 0 ∷ 0 ∷ 0 ∷ 4294967295 ∷ [])) 4
    ∷ row 5 12 (ended_by (block (mark ∷ 2 ∷ 5 ∷ 0 ∷ 1 ∷ 13 ∷ 7 ∷ 7 ∷ []))) 0
    ∷ row 5 12 (ended_by (block (mark ∷ 2 ∷ 5 ∷ 0 ∷ 1 ∷ 4294967295 ∷ 0 ∷ 7 ∷ []))) 0
    ∷ row 5 12 (numbering (7 ∷ 7 ∷ 0 ∷ 0 ∷ 0 ∷ 0 ∷ 0 ∷ 0 ∷ 9 ∷ 9 ∷ [])) 0
    ∷ row 5 12 (ended_by (committing 5 0 (7 ∷ []))) 4
    ∷ [])
unfolding records_compute
ends_numbers = refl

-- 'The first that fits is answered': of 1 and 2, 1 and 3, 2 and 3, 2 and 4, 3 and 4
pub ends_first : Answers
    (row 5 12 (record_of 6 (plain (259 ∷ []))) 1
    ∷ row 5 0 (record_of 5 (plain (259 ∷ []))) 1
    ∷ row 4000000001 12 (record_of 4000000001 (plain (259 ∷ []))) 1
    ∷ row 5 1 (record_of 6 []) 1
    ∷ row 4000000001 1 (record_of 4000000001 []) 1
    ∷ row 5 1 (record_of 5 (plain (259 ∷ []))) 2
    ∷ row 5 3 (record_of 5 (plain (3 ∷ 3 ∷ []))) 2
    ∷ row 5 1 (counting 4294967295) 2
    ∷ row 5 12 (descriptor_block 5 (plain (259 ∷ [])) ∷ []) 2
    ∷ row 5 2 (ended_by zero_block) 3
    ∷ row 5 2 (ended_by (committing 5 0 [])) 3
    ∷ row 5 3 (ended_by zero_block) 4
    ∷ [])
unfolding records_compute
ends_first = (refl, refl)

-- ---- journals: J, the tail, what stands from position 0 on, and the number of the end; C = 2, B = 4
pub record JournalRow : Type 0 where
  pub journal : ℕ
  pub tail : Tail
  pub blocks : List Bytes
  pub end : ℕ

abbrev from : ℕ → Tail → List Bytes → ℕ → JournalRow
from j t bs end = record { journal = j; tail = t; blocks = bs; end = end }

unfoldable pub end_number : CommitLayout → JournalRow → ℕ
end_number y r = let s = new_shape 2 4 r.journal in (record_answer (journal_end y s (journal_of s r.blocks) 0 r.tail)).0

unfoldable pub Ends : List JournalRow → Type 0
Ends rows =
    (map (end_number Lists) rows ≡ map (λ (r : JournalRow). r.end) rows) × (map (end_number Numbers) rows ≡ map (λ (r : JournalRow). r.end) rows)

-- so many records of two blocks, from number 1 on
unfoldable pub short_records : ℕ → List Bytes
short_records n = flat_map (λ (i : ℕ). record_of (i + 1) []) (below n)

-- a record of number 7 that begins at position 3 of J = 4 and goes round: that commit at 1, and that block at 2, behind the record
unfoldable pub going_round : Bytes → Bytes → List Bytes
going_round f b = zero_block ∷ f ∷ b ∷ descriptor_block 7 (plain (3 ∷ [])) ∷ []

unfoldable pub journals_compute : Unit {0}
unfolding records_compute end_number Ends short_records going_round
journals_compute = tt

-- one block left: no descriptor in it, one with a block not below B, a good one; then no block left, an empty journal, an old record
pub ends_one_left : Ends
    (from 4 (new_tail 1 0) (record_of 1 (plain (3 ∷ []))) 1
    ∷ from 4 (new_tail 1 0) (record_of 1 (plain (3 ∷ [])) ++ descriptor_block 2 (plain (4 ∷ [])) ∷ []) 2
    ∷ from 4 (new_tail 1 0) (record_of 1 (plain (3 ∷ [])) ++ descriptor_block 2 [] ∷ []) 3
    ∷ from 4 (new_tail 1 0) (record_of 1 (plain (2 ∷ 3 ∷ []))) 1
    ∷ from 4 (new_tail 1 0) [] 1
    ∷ from 4 (new_tail 2 0) (record_of 1 (plain (3 ∷ []))) 1
    ∷ [])
unfolding journals_compute
ends_one_left = (refl, refl)

pub ends_round : Ends
    (from 4 (new_tail 7 3) (going_round zero_block zero_block) 4
    ∷ from 4 (new_tail 7 3) (going_round (committing 7 1 []) zero_block) 1
    ∷ from 4 (new_tail 7 3) (going_round (committing 7 1 []) (descriptor_block 8 (plain (4 ∷ [])))) 2
    ∷ from 4 (new_tail 7 3) (going_round (committing 7 1 []) (descriptor_block 8 [])) 3
    ∷ [])
unfolding journals_compute
ends_round = (refl, refl)

-- twelve records leave no block of J = 24; eleven, then nothing, a record without its commit, one that is too long
pub ends_full : Ends
    (from 24 (new_tail 1 0) (short_records 12) 1
    ∷ from 24 (new_tail 1 0) (short_records 11) 1
    ∷ from 24 (new_tail 1 0) (short_records 11 ++ descriptor_block 12 [] ∷ []) 4
    ∷ from 24 (new_tail 1 0) (short_records 11 ++ record_of 12 (plain (3 ∷ []))) 3
    ∷ [])
unfolding journals_compute
ends_full = (refl, refl)

-- a tail number above the limit, with a record of that number; then records up to the limit and past it
pub ends_highest : Ends
    (from 4 (new_tail 4000000001 0) (record_of 4000000001 []) 1
    ∷ from 6 (new_tail 4000000000 0) (record_of 4000000000 [] ++ record_of 4000000001 []) 1
    ∷ from 6 (new_tail 4000000000 0) (record_of 4000000000 [] ++ descriptor_block 4000000001 [] ∷ []) 1
    ∷ from 6 (new_tail 3999999999 0) (record_of 3999999999 [] ++ descriptor_block 4000000000 [] ∷ []) 4
    ∷ [])
unfolding journals_compute
ends_highest = (refl, refl)

-- the values of a record: core, number, position, block count, stamp
unfoldable pub values_read : CommitLayout → Bytes → ℕ × List ℕ
values_read y f = record_answer (read_record y (new_shape 2 4 4) (journal_of (new_shape 2 4 4) (going_round f zero_block)) 0 7 3 4)

pub values_read_lem : (values_read Lists (list_commit_block 7 9 (new_name 0 6 ∷ new_name 1 2 ∷ [])) ≡ (0, 0 ∷ 7 ∷ 3 ∷ 1 ∷ 9 ∷ []))
    × (values_read Numbers (committing 7 9 (6 ∷ 2 ∷ [])) ≡ (0, 0 ∷ 7 ∷ 3 ∷ 1 ∷ 9 ∷ []))
unfolding journals_compute values_read
values_read_lem = (refl, refl)
