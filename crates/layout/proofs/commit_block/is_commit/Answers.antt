-- `layout::is_commit` meets its contract: each condition of `is_commit` in turn.
use borrow.Author.Rules.{rules}
use Rattle.model.specs.Layout.{is_commit}
use Rattle.layout.proofs.Readers.{commit_fits}
use Rattle.layout.proofs.Tests.{tests}
use Rattle.layout.proofs.commit_block.is_commit.Goals as goal

pub returns-then-stamp_in-ge1 : goal.returns-then-stamp_in-ge1
unfolding is_commit
returns-then-stamp_in-ge1 c = search (rules, commit_fits)

pub returns-else-stamp_in-ge1 : goal.returns-else-stamp_in-ge1
unfolding is_commit
returns-else-stamp_in-ge1 c = search (rules, tests)
