-- `layout::block_count` meets its contract: the word at its place.
use borrow.Author.Rules.{rules}
use Rattle.model.specs.Layout.{block_count}
use Rattle.layout.proofs.descriptor_block.block_count.Goals as goal

pub returns : goal.returns
unfolding block_count
returns c = search rules
