-- `reading::check_read` meets its contract: the state, then the block.
use mathlib.Core.Path.{◌∙◌, refl}
use Rattle.std.proofs.Common.{rules}
use Rattle.cells.proofs.RefusalLaws.{handed_on, first_pass}
use Rattle.reading.proofs.ReadLaws.{read_stages}
use Rattle.reading.proofs.check_read.Goals as goal

pub returns-in_err-check_up : goal.returns-in_err-check_up
returns-in_err-check_up c = handed_on _ _ _ _ c.in_err-check_up.ensures (search rules) ∙ read_stages _ _ _ _

pub returns : goal.returns
returns c = first_pass 0 _ _ _ c.in_ok-check_up.ensures refl c.check_block.ensures ∙ read_stages _ _ _ _
