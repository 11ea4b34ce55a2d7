-- How a command's line is printed.
use Rattle.std.specs.Prelude.{ℕ, List, [], ◌∷◌, ◌++◌, decimal}
use Rattle.model.specs.Printing.{Line}

-- a number in decimal, and the byte behind it
abbrev pub ended : ℕ → ℕ → List ℕ
ended n end = decimal n ++ end ∷ []

-- four numbers, blanks between them, and a line feed
abbrev pub line_text : Line → List ℕ
line_text l = ended l.offset 0x20 ++ ended l.byte 0x20 ++ ended l.answer 0x20 ++ ended l.stores 0x0A
