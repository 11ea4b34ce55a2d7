-- `recovery::restoring::check_recover` meets its contract: the length, the phase, then the first block.
use mathlib.Core.Path.{◌∙◌, refl}
use Rattle.std.proofs.Common.{rules}
use Rattle.cells.proofs.RefusalLaws.{handed_on, first_pass, recover_numbers, passed_lengths}
use Rattle.recovery.proofs.restoring.check_recover.Goals as goal

pub returns-in_err-check_phase : goal.returns-in_err-check_phase
returns-in_err-check_phase c = handed_on _ _ _ _ c.in_err-check_phase.ensures (search rules) ∙ recover_numbers _

pub check_master-requires : goal.check_master-requires
check_master-requires c = passed_lengths _ _ _ _ c.in_ok-check_phase.ensures

pub returns : goal.returns
returns c = first_pass 0 _ _ _ c.in_ok-check_phase.ensures refl c.check_master.ensures ∙ recover_numbers _
