-- `layout::is_listable` meets its contract: both conditions of `is_listable`.
use borrow.Author.Rules.{rules}
use Rattle.model.specs.Layout.{is_listable}
use Rattle.layout.proofs.Tests.{tests}
use Rattle.layout.proofs.commit_block.is_listable.Goals as goal

pub returns-then-name_core-s : goal.returns-then-name_core-s
unfolding is_listable
returns-then-name_core-s c = search (rules, tests)

pub returns-else-name_core-s : goal.returns-else-name_core-s
unfolding is_listable
returns-else-name_core-s c = search (rules, tests)
