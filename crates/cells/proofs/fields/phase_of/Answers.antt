-- `cells::fields::phase_of` meets its contract.
use Rattle.cells.proofs.ReadLaws.{phase_blank, phase_up, phase_down}
use borrow.Author.Rules.{rules}
use Rattle.cells.proofs.fields.phase_of.Goals as goal

pub returns-in-0 : goal.returns-in-0
returns-in-0 c = search (rules, phase_blank)

pub returns-in-1 : goal.returns-in-1
returns-in-1 c = search (rules, phase_up)

pub returns-in_default : goal.returns-in_default
returns-in_default c = search (rules, phase_down)
