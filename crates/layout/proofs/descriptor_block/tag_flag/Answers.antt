-- `layout::tag_flag` meets its contract: the second word of the pair.
use borrow.Author.Rules.{rules}
use Rattle.model.specs.Layout.{pair_at}
use Rattle.layout.proofs.descriptor_block.tag_flag.Goals as goal

pub returns : goal.returns
unfolding pair_at
returns c = search rules
