-- `format::check_blank` meets its contract: the length, then the phase.
use mathlib.Core.Path.{◌∙◌}
use Rattle.cells.proofs.RefusalLaws.{blank_numbers}
use Rattle.format.proofs.check_blank.Goals as goal

pub returns : goal.returns
returns c = c.check_phase.ensures ∙ blank_numbers _
