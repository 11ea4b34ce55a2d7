-- Section 'The card': sizes and limits by name. The code has them as constants of `Shape`.
use Rattle.std.specs.Prelude.{ℕ}

-- 'A block is 128 bytes.'
abbrev pub block_size : ℕ
block_size = 128

-- 'The lent disk slice is exactly 32,896 bytes', 'a lent slice of exactly 16,384 bytes'
abbrev pub disk_size : ℕ
disk_size = 32896

abbrev pub memory_size : ℕ
memory_size = 16384

-- 'C cores (1 to 8), B home blocks (1 to 64), J journal blocks for each core (4 to 24)'
abbrev pub max_cores : ℕ
max_cores = 8

abbrev pub max_blocks : ℕ
max_blocks = 64

abbrev pub min_journal : ℕ
min_journal = 4

abbrev pub max_journal : ℕ
max_journal = 24

-- 'A list has at most 12 names, a transaction at most 8 blocks': the names in commits before request (d) alone; a list in a book has no limit
abbrev pub max_names : ℕ
max_names = 12

abbrev pub max_taken : ℕ
max_taken = 8

-- paper 02, (h): the report task 'may never take a block where the running transaction already has three'
abbrev pub max_report_taken : ℕ
max_report_taken = 3

-- 'the expected number, at most 4,000,000,000': the highest number of a transaction
abbrev pub max_number : ℕ
max_number = 4000000000

-- '7 offset above 124': four bytes of the block are left there
abbrev pub max_offset : ℕ
max_offset = 124
