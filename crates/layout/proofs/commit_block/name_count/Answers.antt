-- `layout::name_count` meets its contract: the word at its place.
use borrow.Author.Rules.{rules}
use Rattle.model.specs.Layout.{name_count}
use Rattle.layout.proofs.commit_block.name_count.Goals as goal

pub returns : goal.returns
unfolding name_count
returns c = search rules
