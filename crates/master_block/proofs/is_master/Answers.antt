-- `master_block::is_master` meets its contract: both conditions of `is_master`.
use borrow.Author.Rules.{rules}
use Rattle.model.specs.Layout.{is_master}
use Rattle.layout.proofs.Tests.{tests}
use Rattle.master_block.proofs.is_master.Goals as goal

pub returns-then-has_master_fields : goal.returns-then-has_master_fields
unfolding is_master
returns-then-has_master_fields c = search (rules, tests)

pub returns-else-has_master_fields : goal.returns-else-has_master_fields
unfolding is_master
returns-else-has_master_fields c = search (rules, tests)
