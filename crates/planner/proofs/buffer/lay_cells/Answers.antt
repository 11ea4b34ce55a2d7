-- `planner::buffer::lay_cells` meets its contract: four stores and a copy.
use borrow.Author.Rules.{rules}
use Rattle.planner.proofs.CodeLaws.BufferLaws.{laid_cells}
use Rattle.planner.proofs.buffer.lay_cells.Goals as goal

pub returns : goal.returns
returns c = search (rules, laid_cells)
