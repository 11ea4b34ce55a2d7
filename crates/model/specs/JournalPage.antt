-- Paper 02, request (a): 'A journal page for the service log', with the ends of (b) and the name count of (d). A line is given by its fields,
-- a page by its lines.
use Rattle.std.specs.Prelude.{ℕ, zero, suc, ◌+◌, ◌-◌, ◌/◌, ◌%◌, ◌^◌, List, [], ◌∷◌, ◌++◌, map, Bool, cond, not, ◌&&◌, length, get_or, ltb, leb, eqb}
use Rattle.model.specs.Lists.{below}
use Rattle.model.specs.Bytes.{Bytes, zero_memory}
use Rattle.model.specs.Card.{down_card}
use Rattle.model.specs.Layout.{cores_named}
use Rattle.model.specs.Journal.{name_of, names_of}
use Rattle.model.specs.Valid.{is_in}
use Rattle.model.specs.Command.{refusal}
use Rattle.model.specs.Recovery.{shape_on, tail_on, layout_on, committed_on, valid_on, recover_conditions}
use Rattle.model.specs.JournalEnds.{record_answer, journal_end}
use Rattle.model.specs.declared.Shape.{Shape}
use Rattle.model.specs.declared.Committed.{Committed}

-- ---- a line: 'whose lines hold 64 columns', 'blanks to column 64 and a line feed'
abbrev pub last_column : ℕ
last_column = 64

abbrev pub line_size : ℕ
line_size = last_column + 1

abbrev pub space : ℕ
space = 0x20

abbrev pub line_feed : ℕ
line_feed = 0x0A

-- a field of a line: the column where it begins, counted from 1, and what stands from there on
pub record Field : Type 0 where
  pub first : ℕ
  pub text : Bytes

-- the digit of n at a place, counted from the right; a blank above the highest one, and nought is one 0
unfoldable pub digit_at : ℕ → ℕ → ℕ
digit_at n place = let q = n / 10 ^ place in cond (eqb q 0 && not (eqb place 0)) space (0x30 + q % 10)

-- 'numbers set right' in so many columns; of a number that is wider the lowest digits
unfoldable pub numeral : ℕ → ℕ → ℕ → Field
numeral first width n = record { first = first; text = map (λ (i : ℕ). digit_at n (width - (i + 1))) (below width) }

-- 'the word': its letters from a column on
abbrev pub word : ℕ → Bytes → Field
word first letters = record { first = first; text = letters }

-- column k is one of the field's
unfoldable pub covers : Field → ℕ → Bool
covers f k = leb f.first k && ltb k (f.first + length f.text)

-- what the fields show at a column, a blank where none has it
unfoldable pub shown_at : List Field → ℕ → ℕ
shown_at [] k = space
shown_at (f ∷ fs) k = cond (covers f k) (get_or f.text (k - f.first) space) (shown_at fs k)

-- the byte at a column of a line: 'Every line of the page is set and filled in the same way.'
unfoldable pub byte_at : List Field → ℕ → ℕ
byte_at fs k = cond (leb k last_column) (shown_at fs k) line_feed

-- 'its bytes at each column', 1 to 65
unfoldable pub line_bytes : List Field → Bytes
line_bytes fs = map (λ (i : ℕ). byte_at fs (i + 1)) (below line_size)

-- ---- the lines of a page
-- 'a head line with C, B and J, two columns each'
unfoldable pub head_fields : Shape → List Field
head_fields s = numeral 1 2 s.cores ∷ numeral 4 2 s.blocks ∷ numeral 7 2 s.journal ∷ []

-- 'the word kept (in the valid set) or left (not in it)'
unfoldable pub kept_or_left : Bool → Bytes
kept_or_left kept = cond kept (0x6B ∷ 0x65 ∷ 0x70 ∷ 0x74 ∷ []) (0x6C ∷ 0x65 ∷ 0x66 ∷ 0x74 ∷ [])

-- 'A line has core (2 columns), number (10), stamp (20), block count (2), name count (2) and the word ..,
-- single spaces between'; it names so many cores
unfoldable pub transaction_fields : Bool → ℕ → Committed → List Field
transaction_fields kept cores e =
    numeral 1 2 e.core ∷ numeral 4 10 e.number ∷ numeral 15 20 e.stamp ∷
    numeral 36 2 e.count ∷ numeral 39 2 cores ∷ word 42 (kept_or_left kept) ∷ []

-- 'one line for each core, core and end in two columns each'
unfoldable pub end_fields : ℕ → ℕ → List Field
end_fields c end = numeral 1 2 c ∷ numeral 4 2 end ∷ []

-- 'one line with the refusal number, two columns'
unfoldable pub refusal_fields : ℕ → List Field
refusal_fields n = numeral 1 2 n ∷ []

-- ---- the page of a disk
-- 'A disk that recovery would refuse': the number that RECOVER answers on a card that is down over it, 0 for none
unfoldable pub page_refusal : Bytes → ℕ
page_refusal d = refusal (recover_conditions (record { card = down_card; disk = d; memory = zero_memory }))

-- a transaction of the disk: kept where its name is one of the valid set's; paper 02, (d): 'the page counts the cores named'
unfoldable pub transaction_line : Bytes → Committed → List Field
transaction_line d e = transaction_fields (is_in (valid_on d) (name_of e)) (cores_named (names_of (layout_on d) (shape_on d) d e)) e

-- why the reading of core c's journal ended, by its number
unfoldable pub end_on : Bytes → ℕ → ℕ
end_on d c = (record_answer (journal_end (layout_on d) (shape_on d) d c (tail_on d c))).0

unfoldable pub end_line : Bytes → ℕ → List Field
end_line d c = end_fields c (end_on d c)

-- 'one line for each committed unretired transaction in order of core and number'; 'the page ends with one line for each core'
unfoldable pub body_lines : Bytes → List (List Field)
body_lines d = map (transaction_line d) (committed_on d) ++ map (end_line d) (below (shape_on d).cores)

-- 'a head line', then those; of 'a disk that recovery would refuse' the one line
unfoldable pub page_of : Bytes → List (List Field)
page_of d = elim (page_refusal d) [ zero ↦ head_fields (shape_on d) ∷ body_lines d | suc n ↦ refusal_fields (suc n) ∷ [] ]

-- line i of the page, from 0: past the last one no field
unfoldable pub line_at : Bytes → ℕ → List Field
line_at d i = get_or (page_of d) i []

-- ---- 'The library lays the line into a lent buffer of 65 bytes, another length giving 1': the number answered
unfoldable pub lay_number : Bytes → ℕ
lay_number buffer = cond (eqb (length buffer) line_size) 0 1

-- the buffer afterwards: the line, or as it was
unfoldable pub laid : List Field → Bytes → Bytes
laid fs buffer = cond (eqb (length buffer) line_size) (line_bytes fs) buffer
