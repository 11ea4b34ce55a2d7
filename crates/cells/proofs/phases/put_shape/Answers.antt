-- `cells::phases::put_shape` meets its contract: four cells are put.
use Rattle.cells.proofs.PhaseLaws.{shape_put, shape_frame}
use borrow.Author.Rules.{rules}
use Rattle.cells.proofs.phases.put_shape.Goals as goal

pub returns : goal.returns
returns c = (search (rules, shape_put), search (rules, shape_frame))
