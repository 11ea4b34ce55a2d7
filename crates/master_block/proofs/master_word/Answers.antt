-- `master_block::master_word` meets its contract: a word of the head, of a tail, or none.
use borrow.Author.Rules.{rules}
use Rattle.master_block.proofs.Writers.{few_cores, master_head, master_rest, master_pair}
use Rattle.master_block.proofs.master_word.Goals as goal

pub returns-then-i-lt6 : goal.returns-then-i-lt6
returns-then-i-lt6 c = search (rules, master_head)

pub returns-then-near-c : goal.returns-then-near-c
returns-then-near-c c = search (rules, master_rest)

pub bounds-tails-c : goal.bounds-tails-c
bounds-tails-c c = search (rules, few_cores)

pub returns : goal.returns
returns c = search (rules, master_pair)
