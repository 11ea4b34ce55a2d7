-- `recovery::home::master_count` meets its contract: the shape is read where the first block is a master.
use borrow.Author.Tests.{not-true, not-false}
use Rattle.recovery.proofs.MasterLaws.{is_fit, count_unfit, count_fit}
use borrow.Author.Rules.{rules}
use Rattle.recovery.proofs.home.master_count.Goals as goal

pub returns-then-not-is_master : goal.returns-then-not-is_master
returns-then-not-is_master c = search (rules, not-true, count_unfit)

pub disk_shape-s-requires : goal.disk_shape-s-requires
disk_shape-s-requires c = (search rules, search (rules, not-false, is_fit))

pub returns : goal.returns
returns c = search (rules, not-false, count_fit)
