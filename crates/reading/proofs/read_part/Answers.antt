-- `reading::read_part` meets its contract: refused, in memory, or on the disk.
use native.Mathlib.Omega.{arith}
use Rattle.reading.proofs.ReadLaws.{below_blocks, part_none, part_memory, part_disk}
use borrow.Author.Rules.{rules}
use Rattle.reading.proofs.read_part.Goals as goal

pub returns-in_err-check_read : goal.returns-in_err-check_read
returns-in_err-check_read c = search (rules, part_none)

pub overflow_cast-block : goal.overflow_cast-block
overflow_cast-block c = omega (arith, below_blocks _ _ _ _ c.in_ok-check_read.ensures)

pub is_held-requires : goal.is_held-requires
is_held-requires c = below_blocks _ _ _ _ c.in_ok-check_read.ensures

pub returns-then-is_held : goal.returns-then-is_held
returns-then-is_held c = search (rules, part_memory, c.in_ok-check_read.ensures)

pub returns : goal.returns
returns c = search (rules, part_disk, c.in_ok-check_read.ensures)
