-- `cells::holders::name_of` meets its contract.
use Rattle.cells.proofs.ReadLaws.{name_is}
use Rattle.cells.proofs.holders.name_of.Goals as goal

pub returns : goal.returns
returns c = name_is _
