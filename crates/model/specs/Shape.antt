-- Section 'The card': the disk's shape, its limits, and where blocks stand.
use Rattle.std.specs.Prelude.{ℕ, ◌+◌, ◌*◌, ◌%◌, Bool, cond, ◌&&◌, ltb, leb, Option, Some, None}
use Rattle.model.specs.Limits.{max_cores, max_blocks, min_journal, max_journal}
use Rattle.model.specs.declared.Shape.{Shape}

abbrev pub new_shape : ℕ → ℕ → ℕ → Shape
new_shape c b j = record { cores = c; blocks = b; journal = j }

unfoldable pub between : ℕ → ℕ → ℕ → Bool
between low x high = leb low x && leb x high

-- 'C cores (1 to 8), B home blocks (1 to 64), J journal blocks for each core (4 to 24)'
unfoldable pub in_range : ℕ → ℕ → ℕ → Bool
in_range c b j = between 1 c max_cores && between 1 b max_blocks && between min_journal j max_journal

-- what the constructor of a shape answers
unfoldable pub checked : ℕ → ℕ → ℕ → Option Shape
checked c b j = cond (in_range c b j) (Some (new_shape c b j)) None

-- its refusal: '4 C, B or J out of range'; 0 for none
abbrev pub checked_answer : Option Shape → ℕ
checked_answer (Some s) = 0
checked_answer None = 4

-- 'home block b is disk block 1 + b'
abbrev pub home_block : ℕ → ℕ
home_block b = 1 + b

-- 'position p of core c's journal is disk block 1 + B + c × J + p'; 'Positions count round modulo J'
unfoldable pub journal_block : Shape → ℕ → ℕ → ℕ
journal_block s c p = 1 + s.blocks + c * s.journal + p % s.journal

-- the number between the limits that is nearest to x
unfoldable pub nearest : ℕ → ℕ → ℕ → ℕ
nearest low x high = cond (ltb x low) low (cond (ltb high x) high x)

-- A card value that no run made may hold any numbers; its shape is read within the limits.
unfoldable pub clamped : Shape → Shape
clamped s = record { cores = nearest 1 s.cores max_cores; blocks = nearest 1 s.blocks max_blocks; journal = nearest min_journal s.journal max_journal }
