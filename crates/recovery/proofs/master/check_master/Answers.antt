-- `recovery::master::check_master` meets its contract.
use borrow.Author.Rules.{rules}
use Rattle.recovery.proofs.MasterLaws.{is_master_lem, no_master}
use Rattle.recovery.proofs.master.check_master.Goals as goal

pub returns-then-is_master : goal.returns-then-is_master
returns-then-is_master c = search (rules, is_master_lem)

pub returns : goal.returns
returns c = search (rules, no_master)
