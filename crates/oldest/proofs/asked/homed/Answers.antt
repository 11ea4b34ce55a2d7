-- `oldest::asked::homed` meets its contract.
use Rattle.cells.proofs.ReadLaws.{homed_there}
use borrow.Author.Rules.{rules}
use Rattle.oldest.proofs.asked.homed.Goals as goal

pub returns : goal.returns
returns c = search (rules, homed_there)
