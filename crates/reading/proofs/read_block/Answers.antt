-- `reading::read_block` meets its contract: no bytes where it is refused; else the part stands within its slice, and is the block.
use native.Mathlib.Omega.{arith}
use Rattle.reading.proofs.ReadLaws.{no_bytes, end_small, memory_end, memory_read, disk_end, disk_read}
use borrow.Author.Rules.{rules}
use Rattle.reading.proofs.read_block.Goals as goal

pub returns-in_default : goal.returns-in_default
returns-in_default c = search (rules, no_bytes, c.in_default.ensures)

pub overflow_add-to : goal.overflow_add-to
overflow_add-to c = omega (arith, end_small _ _ _ _ _ c.in-Ok.ensures)

pub slice_bounds-result-end-in-Disk : goal.slice_bounds-result-end-in-Disk
slice_bounds-result-end-in-Disk c = search (rules, disk_end, c.in-Ok.ensures)

pub slice_bounds-result-end-in-Memory : goal.slice_bounds-result-end-in-Memory
slice_bounds-result-end-in-Memory c = search (rules, memory_end, c.in-Ok.ensures)

pub returns-in-Disk : goal.returns-in-Disk
returns-in-Disk c = search (rules, disk_read, c.in-Ok.ensures)

pub returns-in-Memory : goal.returns-in-Memory
returns-in-Memory c = search (rules, memory_read, c.in-Ok.ensures)
