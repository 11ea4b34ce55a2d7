-- `layout::descriptor_word` meets its contract: a word of the head, of a block with its flag, or none.
use borrow.Author.Rules.{rules}
use Rattle.layout.proofs.Pairs.{descriptor_head_lem, descriptor_rest, descriptor_pair}
use Rattle.layout.proofs.descriptor_block.descriptor_word.Goals as goal

pub returns-then-i-lt4 : goal.returns-then-i-lt4
returns-then-i-lt4 c = search (rules, descriptor_head_lem)

pub returns-then-n-k : goal.returns-then-n-k
returns-then-n-k c = search (rules, descriptor_rest)

pub returns : goal.returns
returns c = search (rules, descriptor_pair)
