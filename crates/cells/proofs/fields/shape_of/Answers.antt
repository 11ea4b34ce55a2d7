-- `cells::fields::shape_of` meets its contract.
use Rattle.cells.proofs.ReadLaws.{shape_read}
use borrow.Author.Rules.{rules}
use Rattle.cells.proofs.fields.shape_of.Goals as goal

pub returns : goal.returns
returns c = search (rules, shape_read)
