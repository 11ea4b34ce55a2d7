-- `recovery::restoring::recover` meets its contract: refused, or the next store of recovery.
use borrow.Author.Rules.{rules}
use Rattle.recovery.proofs.RecoverLaws.{disk_long, first_master, recover_refused, recover_done}
use Rattle.recovery.proofs.restoring.recover.Goals as goal

pub returns-in_err-check_recover : goal.returns-in_err-check_recover
returns-in_err-check_recover c = search (rules, recover_refused)

pub recovered-requires : goal.recovered-requires
recovered-requires c = search (rules, disk_long, first_master, c.in_ok-check_recover.ensures)

pub returns : goal.returns
returns c = search (rules, recover_done, c.in_ok-check_recover.ensures)
