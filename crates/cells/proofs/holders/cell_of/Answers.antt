-- `cells::holders::cell_of` meets its contract: the name is read back.
use Rattle.cells.proofs.ReadLaws.{name_in_put}
use borrow.Author.Rules.{rules}
use Rattle.cells.proofs.holders.cell_of.Goals as goal

pub returns : goal.returns
returns c = (search (rules, name_in_put), search rules)
