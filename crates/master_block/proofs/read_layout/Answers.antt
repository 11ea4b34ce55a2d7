-- `master_block::read_layout` meets its contract: 0 or not.
use borrow.Author.Rules.{rules}
use Rattle.model.specs.Layout.{layout_in}
use Rattle.layout.proofs.Tests.{tests}
use Rattle.master_block.proofs.read_layout.Goals as goal

pub returns-in-0 : goal.returns-in-0
unfolding layout_in
returns-in-0 c = search (rules, tests)

pub returns-in_default : goal.returns-in_default
unfolding layout_in
returns-in_default c = search (rules, tests)
