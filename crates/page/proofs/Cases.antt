-- Pages that are computed, against texts that are written out. Then wrong definitions that they tell from the right one.
use Prim.Native.Nat.{ℕ, ◌+◌, ◌-◌, ◌/◌, ◌%◌, ◌^◌}
use Prim.Native.Char.{code}
use Prim.Native.String.{String, [] as no_text, ◌∷◌ as ◌then◌}
use native.Mathlib.Omega.{arith}
use mathlib.Core.Path.{◌≡◌, refl, ap}
use mathlib.Core.Logic.{◌≢◌}
use mathlib.Core.Bool.{Bool, true, false}
use mathlib.Core.List.{List, [], ◌∷◌, ◌++◌, map}
use lib.ListN.{length, take, get_or, replicate}
use Rattle.model.specs.Lists.{below}
use Rattle.model.specs.Bytes.{Bytes, store, padded, block, zero_disk}
use Rattle.model.specs.Shape.{new_shape, journal_block}
use Rattle.model.specs.Card.{new_tail, new_name}
use Rattle.model.specs.Layout.{mark, new_tag, master_block, descriptor_block, list_commit_block}
use Rattle.model.specs.Journal.{names_of}
use Rattle.model.specs.Format.{formatted_disk}
use Rattle.model.specs.Printing.{blank_world}
use Rattle.model.specs.Tape.{run, world_after}
use Rattle.model.specs.Step.{step_at}
use Rattle.model.specs.Cases.{Case, cases}
use Rattle.model.specs.Recovery.{shape_on, layout_on, committed_on}
use Rattle.model.specs.JournalPage.{Field, digit_at, numeral, word, covers, shown_at, byte_at, line_bytes, head_fields, kept_or_left, transaction_fields}
use Rattle.model.specs.JournalPage.{end_fields, refusal_fields, page_refusal, transaction_line, end_on, end_line, body_lines, page_of, lay_number, laid}
use Rattle.model.specs.declared.Shape.{Shape}
use Rattle.model.specs.declared.CommitLayout.{CommitLayout}
use Rattle.model.specs.declared.CommitLayout.TheVariants.{Lists, Numbers}
use Rattle.model.specs.declared.Committed.{Committed}
use Rattle.model.proofs.Computes.{computes}
use Rattle.model.proofs.Journal.{stores_at}
use Rattle.page.proofs.EndCases.{committing}

-- ---- what is expected: a text, blanks to column 64 and a line feed
unfoldable pub text_bytes : String → Bytes
text_bytes no_text = []
text_bytes (c then s) = code c ∷ text_bytes s

unfoldable pub line : String → Bytes
line s = text_bytes s ++ replicate (64 - length (text_bytes s)) 0x20 ++ 0x0A ∷ []

-- ---- what is computed: a disk's page, line by line, and the disk that a tape leaves
unfoldable pub page_bytes : Bytes → List Bytes
page_bytes d = map line_bytes (page_of d)

unfoldable pub disk_after : Bytes → Bytes
disk_after t = (world_after blank_world (run step_at t blank_world)).disk

-- P1 just before its CUT: both committed
unfoldable pub disk_p1 : Bytes
disk_p1 = disk_after (take 38 (get_or (map (λ (c : Case). c.tape) cases) 0 []))

-- the same without the last STORE: core 1's commit is not there
unfoldable pub disk_torn : Bytes
disk_torn = disk_after (take 36 (get_or (map (λ (c : Case). c.tape) cases) 0 []))

-- P2 just before its CUT, with a third core that commits: core 1 is uncommitted, so core 0, which names it, is left
unfoldable pub disk_p2 : Bytes
disk_p2 =
    disk_after
    (1 ∷ 3 ∷ 4 ∷ 0x0C ∷ 2 ∷ 0 ∷ 0 ∷ 3 ∷ 0 ∷ 0x41 ∷ 0x42 ∷ 0x43 ∷ 0x44 ∷ 2 ∷ 1 ∷ 0 ∷ 3 ∷ 4 ∷ 0x45 ∷ 0x46 ∷ 0x47 ∷ 0x48 ∷ 3 ∷ 0 ∷ 4 ∷ 0 ∷ 4 ∷ 0 ∷
    4 ∷ 0 ∷ 5 ∷ 0 ∷ 3 ∷ 1 ∷ 4 ∷ 1 ∷ 2 ∷ 2 ∷ 0 ∷ 1 ∷ 0 ∷ 1 ∷ 2 ∷ 3 ∷ 4 ∷ 3 ∷ 2 ∷ 4 ∷ 2 ∷ 4 ∷ 2 ∷ 4 ∷ 2 ∷ [])

-- made block by block: two records, from position 9 on and round. The second has the highest number and stamp, as many blocks as a
-- record may have and as many names as a list; all are of one core.
abbrev round_shape : Shape
round_shape = new_shape 1 10 12

unfoldable pub disk_highest : Bytes
disk_highest =
    stores_at round_shape 0 9
    (descriptor_block 3999999999 [] ∷ list_commit_block 3999999999 1 [] ∷ descriptor_block 4000000000 (map (λ (b : ℕ). new_tag b 0) (below 8)) ∷ [])
    (store (store zero_disk 0 (master_block Lists round_shape (λ (c : ℕ). new_tail 3999999999 9))) (journal_block round_shape 0 20)
    (list_commit_block 4000000000 (2 ^ 64 - 1) (map (λ (i : ℕ). new_name 0 (i + 1)) (below 12))))

-- made block by block, with lists, as the program's `stdin`: cores 0 and 1 are tied by block 3 and committed, core 2 is tied by block 2 to
-- core 3, whose commit is not there. Then core 1 has a descriptor with block 259, core 2 one of eight blocks where nine are left.
abbrev four_cores : Shape
four_cores = new_shape 4 8 12

unfoldable pub disk_four_ends : Bytes
disk_four_ends =
    stores_at four_cores 0 0 (descriptor_block 1 (new_tag 3 0 ∷ []) ∷ padded (text_bytes "ABCDEFGH") ∷ list_commit_block 1 1 (new_name 1 1 ∷ []) ∷ [])
    (stores_at four_cores 1 0 (descriptor_block 1 [] ∷ list_commit_block 1 2 (new_name 0 1 ∷ []) ∷ descriptor_block 2 (new_tag 259 0 ∷ []) ∷ [])
    (stores_at four_cores 2 0
    (descriptor_block 1 (new_tag 2 0 ∷ []) ∷ padded (text_bytes "IJKLMNOP") ∷ list_commit_block 1 3 (new_name 3 1 ∷ []) ∷
    descriptor_block 2 (map (λ (b : ℕ). new_tag b 0) (below 8)) ∷ [])
    (stores_at four_cores 3 0 (descriptor_block 1 (new_tag 5 0 ∷ []) ∷ padded (text_bytes "QRST") ∷ [])
    (store zero_disk 0 (master_block Lists four_cores (λ (c : ℕ). new_tail 1 0))))))

-- one disk in both layouts: core 0's transaction names three of core 0, two of core 7 and one of core 2, all below the tails; core 1's
-- names one of each core, and its own it is itself
abbrev eight_cores : Shape
eight_cores = new_shape 8 1 4

unfoldable pub disk_naming : CommitLayout → Bytes → Bytes → Bytes
disk_naming y f g =
    stores_at eight_cores 0 0 (descriptor_block 9 [] ∷ f ∷ [])
    (stores_at eight_cores 1 0 (descriptor_block 9 [] ∷ g ∷ []) (store zero_disk 0 (master_block y eight_cores (λ (c : ℕ). new_tail 9 0))))

unfoldable pub disk_lists : Bytes
disk_lists =
    disk_naming Lists
    (list_commit_block 9 1 (new_name 0 1 ∷ new_name 7 2 ∷ new_name 0 3 ∷ new_name 2 4 ∷ new_name 7 1 ∷ new_name 0 2 ∷ []))
    (list_commit_block 9 2 (map (λ (c : ℕ). new_name c 8) (below 8) ++ new_name 1 9 ∷ []))

unfoldable pub disk_numbers : Bytes
disk_numbers =
    disk_naming Numbers (committing 9 1 (3 ∷ 0 ∷ 4 ∷ 0 ∷ 0 ∷ 0 ∷ 0 ∷ 2 ∷ [])) (committing 9 2 (8 ∷ 9 ∷ 8 ∷ 8 ∷ 8 ∷ 8 ∷ 8 ∷ 8 ∷ []))

-- formatted, and nothing more: before request (d), since, and with another value in bytes 8 to 11 of the master
abbrev smallest : Shape
smallest = new_shape 1 1 4

unfoldable pub disk_holding : ℕ → Bytes
disk_holding n = store zero_disk 0 (block (mark ∷ 4 ∷ n ∷ 1 ∷ 1 ∷ 4 ∷ 1 ∷ 0 ∷ []))

unfoldable pub disk_formatted : Bytes
disk_formatted = formatted_disk Numbers smallest

unfoldable pub page_computes : Unit {0}
unfolding computes digit_at numeral covers shown_at byte_at line_bytes head_fields kept_or_left transaction_fields end_fields refusal_fields page_refusal transaction_line end_on end_line body_lines page_of lay_number laid text_bytes line page_bytes disk_after disk_p1 disk_torn disk_p2 disk_highest disk_four_ends disk_naming disk_lists committing disk_numbers disk_holding disk_formatted stores_at
page_computes = tt

-- ---- pages
pub page_P1 : page_bytes disk_p1
    ≡ line " 2  4 12"
    ∷ line " 0          1                    1  1  1 kept"
    ∷ line " 1          1                    2  0  1 kept"
    ∷ line " 0  1"
    ∷ line " 1  1"
    ∷ []
unfolding page_computes
page_P1 = refl

pub page_torn : page_bytes disk_torn
    ≡ line " 2  4 12"
    ∷ line " 0          1                    1  1  1 left"
    ∷ line " 0  1"
    ∷ line " 1  4"
    ∷ []
unfolding page_computes
page_torn = refl

pub page_P2 : page_bytes disk_p2
    ≡ line " 3  4 12"
    ∷ line " 0          1                    1  1  1 left"
    ∷ line " 2          1                    3  1  0 kept"
    ∷ line " 0  1"
    ∷ line " 1  4"
    ∷ line " 2  1"
    ∷ []
unfolding page_computes
page_P2 = refl

pub page_highest : page_bytes disk_highest
    ≡ line " 1 10 12"
    ∷ line " 0 3999999999                    1  0  0 kept"
    ∷ line " 0 4000000000 18446744073709551615  8  1 kept"
    ∷ line " 0  1"
    ∷ []
unfolding page_computes
page_highest = refl

-- the four ends, and the text of the program's `stdout`
pub page_four_ends : page_bytes disk_four_ends
    ≡ line " 4  8 12"
    ∷ line " 0          1                    1  1  1 kept"
    ∷ line " 1          1                    2  0  1 kept"
    ∷ line " 2          1                    3  1  1 left"
    ∷ line " 0  1"
    ∷ line " 1  2"
    ∷ line " 2  3"
    ∷ line " 3  4"
    ∷ []
unfolding page_computes
page_four_ends = refl

-- 'the page counts the cores named, in the lists of older disks too'
pub page_naming : (page_bytes disk_lists ≡ page_bytes disk_numbers)
    × (take 3 (page_bytes disk_numbers)
    ≡ line " 8  1  4"
    ∷ line " 0          9                    1  0  3 kept"
    ∷ line " 1          9                    2  0  8 kept"
    ∷ [])
unfolding page_computes
page_naming = (refl, refl)

-- an unfit master: 8; a disk of another length: 1, its master fit or not
pub page_unfit : page_bytes zero_disk ≡ line " 8" ∷ []
unfolding page_computes
page_unfit = refl

-- 0 and 1 in bytes 8 to 11 of the master; 'Any other value joins the conditions of refusal 8.'
pub page_holding : map page_bytes (map disk_holding (0 ∷ 1 ∷ 2 ∷ 256 ∷ 4294967295 ∷ []))
    ≡ page_bytes disk_formatted ∷ page_bytes disk_formatted ∷ (line " 8" ∷ []) ∷ (line " 8" ∷ []) ∷ (line " 8" ∷ []) ∷ []
unfolding page_computes
page_holding = refl

pub page_none : page_bytes [] ≡ line " 1" ∷ []
unfolding page_computes
page_none = refl

-- one byte too few, the right length, one too many
pub page_lengths : map page_bytes (take 32895 disk_formatted ∷ disk_formatted ∷ (disk_formatted ++ 0 ∷ []) ∷ [])
    ≡ (line " 1" ∷ []) ∷ (line " 1  1  4" ∷ line " 0  1" ∷ []) ∷ (line " 1" ∷ []) ∷ []
unfolding page_computes
page_lengths = refl

-- ---- numbers set right: nought is one 0, no 0 leads, and of a number that is wider the lowest digits
pub numerals :
    map (λ (n : ℕ). (numeral 1 2 n).text) (0 ∷ 7 ∷ 10 ∷ 99 ∷ 100 ∷ 123 ∷ [])
    ≡ text_bytes " 0" ∷ text_bytes " 7" ∷ text_bytes "10" ∷ text_bytes "99" ∷ text_bytes "00" ∷ text_bytes "23" ∷ []
unfolding page_computes
numerals = refl

pub numeral_wide : (numeral 4 10 0).text ++ (numeral 15 20 1000).text ≡ text_bytes "         0                1000"
unfolding page_computes
numeral_wide = refl

-- ---- the buffer: of 64 or 66 bytes it is refused with 1 and stays, of 65 it gets the line
pub buffers : map lay_number (replicate 64 7 ∷ replicate 65 7 ∷ replicate 66 7 ∷ []) ≡ 1 ∷ 0 ∷ 1 ∷ []
unfolding page_computes
buffers = refl

pub buffers_after :
    map (laid (refusal_fields 8)) (replicate 64 7 ∷ replicate 65 7 ∷ replicate 66 7 ∷ []) ≡ replicate 64 7 ∷ line " 8" ∷ replicate 66 7 ∷ []
unfolding page_computes
buffers_after = refl

-- ---- wrong definitions, each with the byte or the length that tells it apart
-- lines filled to column 63
unfoldable pub filled_short : List Field → Bytes
filled_short fs = take 63 (line_bytes fs) ++ 0x0A ∷ []

pub short_fill_differs : (fs : List Field) → filled_short fs ≢ line_bytes fs
unfolding page_computes filled_short
short_fill_differs fs e = let h : ◌≡◌ {A = ℕ} 64 65 = ap length e in omega arith

-- block count and name count exchanged: core 1's transaction of P1 has no block and names one core
abbrev second_of_p1 : Committed
second_of_p1 = record { core = 1; number = 1; position = 0; count = 0; stamp = 2 }

unfoldable pub counts_exchanged : Bool → ℕ → Committed → List Field
counts_exchanged kept named e =
    numeral 1 2 e.core ∷ numeral 4 10 e.number ∷ numeral 15 20 e.stamp ∷
    numeral 36 2 named ∷ numeral 39 2 e.count ∷ word 42 (kept_or_left kept) ∷ []

pub second_line : line_bytes (transaction_fields true 1 second_of_p1) ≡ line " 1          1                    2  0  1 kept"
unfolding page_computes
second_line = refl

pub counts_differ : line_bytes (counts_exchanged true 1 second_of_p1) ≢ line_bytes (transaction_fields true 1 second_of_p1)
unfolding page_computes counts_exchanged
counts_differ e = let h : ◌≡◌ {A = ℕ} 0x31 0x30 = ap (λ (b : Bytes). get_or b 36 0) e in omega arith

-- names counted, not cores: the twelve names of the second transaction are all of one core, and its line in `page_highest` has 1
unfoldable pub names_counted : Bytes → Committed → ℕ
names_counted d e = length (names_of (layout_on d) (shape_on d) d e)

pub twelve_names_counted : map (names_counted disk_highest) (committed_on disk_highest) ≡ 0 ∷ 12 ∷ []
unfolding page_computes names_counted
twelve_names_counted = refl

-- numbers with leading zeros
unfoldable pub zeros_lead : ℕ → ℕ → ℕ → Field
zeros_lead first width n = record { first = first; text = map (λ (i : ℕ). 0x30 + n / 10 ^ (width - (i + 1)) % 10) (below width) }

pub zeros_differ : (zeros_lead 1 2 8).text ≢ (numeral 1 2 8).text
unfolding page_computes zeros_lead
zeros_differ e = let h : ◌≡◌ {A = ℕ} 0x30 0x20 = ap (λ (b : Bytes). get_or b 0 0) e in omega arith

-- the other word
pub words_differ : (named : ℕ) (e : Committed) → line_bytes (transaction_fields true named e) ≢ line_bytes (transaction_fields false named e)
unfolding page_computes
words_differ named e q = let h : ◌≡◌ {A = ℕ} 0x6B 0x6C = ap (λ (b : Bytes). get_or b 41 0) q in omega arith

-- an end line with its two fields exchanged: core 1 of P2 ends 4
pub end_fields_differ : line_bytes (end_fields 4 1) ≢ line_bytes (end_fields 1 4)
unfolding page_computes
end_fields_differ e = let h : ◌≡◌ {A = ℕ} 0x34 0x31 = ap (λ (b : Bytes). get_or b 1 0) e in omega arith

-- a page without the last core's line: P1 has two transactions and two cores
unfoldable pub last_core_missing : Bytes → List (List Field)
last_core_missing d = map (transaction_line d) (committed_on d) ++ map (end_line d) (below ((shape_on d).cores - 1))

pub last_core_differs : last_core_missing disk_p1 ≢ body_lines disk_p1
unfolding page_computes last_core_missing
last_core_differs e = let h : ◌≡◌ {A = ℕ} 3 4 = ap length e in omega arith
