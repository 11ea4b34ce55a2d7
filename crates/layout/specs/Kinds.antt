-- The numbers by which the disk tells the kinds of record blocks apart.
use Rattle.std.specs.Prelude.{ℕ}
use Rattle.layout.specs.declared.words.BlockKind.{BlockKind}
use Rattle.layout.specs.declared.words.BlockKind.TheVariants.{Descriptor, Commit, Master}

abbrev pub kind_number : BlockKind → ℕ
kind_number Descriptor = 1
kind_number Commit = 2
kind_number Master = 4
