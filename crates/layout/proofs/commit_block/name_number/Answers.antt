-- `layout::name_number` meets its contract: the second word of the pair.
use borrow.Author.Rules.{rules}
use Rattle.model.specs.Layout.{pair_at}
use Rattle.layout.proofs.commit_block.name_number.Goals as goal

pub returns : goal.returns
unfolding pair_at
returns c = search rules
