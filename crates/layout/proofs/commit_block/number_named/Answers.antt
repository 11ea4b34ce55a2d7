-- `layout::number_named` meets its contract: the word at its place.
use borrow.Author.Rules.{rules}
use Rattle.model.specs.Layout.{number_named}
use Rattle.layout.proofs.commit_block.number_named.Goals as goal

pub returns : goal.returns
unfolding number_named
returns c = search rules
