-- `master_block::is_tail` meets its contract: each condition of `is_tail` in turn.
use borrow.Author.Rules.{rules}
use Rattle.model.specs.Layout.{is_tail, tail_in, pair_at}
use Rattle.model.specs.Shape.{between}
use Rattle.layout.proofs.Tests.{tests}
use Rattle.master_block.proofs.is_tail.Goals as goal

pub returns-then-number : goal.returns-then-number
unfolding is_tail tail_in pair_at between
returns-then-number c = search (rules, tests)

pub returns-else-number : goal.returns-else-number
unfolding is_tail tail_in pair_at between
returns-else-number c = search (rules, tests)
