-- `cells::holders::hold` meets its contract: one cell is put.
use Rattle.cells.proofs.CellLaws.{holder_put, holder_frame}
use borrow.Author.Rules.{rules}
use Rattle.cells.proofs.holders.hold.Goals as goal

pub returns : goal.returns
returns c = (search (rules, holder_put), search (rules, holder_frame))
