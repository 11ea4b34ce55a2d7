-- `cells::refusals::check_up` meets its contract: the length, then the phase.
use mathlib.Core.Path.{◌∙◌}
use Rattle.cells.proofs.RefusalLaws.{up_numbers}
use Rattle.cells.proofs.refusals.check_up.Goals as goal

pub returns : goal.returns
returns c = c.check_phase.ensures ∙ up_numbers _
