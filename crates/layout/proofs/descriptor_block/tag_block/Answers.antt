-- `layout::tag_block` meets its contract: the first word of the pair.
use borrow.Author.Rules.{rules}
use Rattle.model.specs.Layout.{pair_at}
use Rattle.layout.proofs.descriptor_block.tag_block.Goals as goal

pub returns : goal.returns
unfolding pair_at
returns c = search rules
