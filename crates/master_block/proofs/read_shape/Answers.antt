-- `master_block::read_shape` meets its contract: the three words are the shape that is checked.
use borrow.Author.Rules.{rules}
use Rattle.master_block.proofs.Readers.{shape_read}
use Rattle.master_block.proofs.read_shape.Goals as goal

pub returns : goal.returns
returns c = search (rules, shape_read)
