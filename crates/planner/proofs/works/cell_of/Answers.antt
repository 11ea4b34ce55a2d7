-- `planner::works::cell_of` meets its contract.
use Rattle.cells.specs.Cells.{name_cell}
use borrow.Author.Rules.{rules}
use Rattle.planner.proofs.works.cell_of.Goals as goal

pub returns : goal.returns
unfolding name_cell
returns c = search rules
