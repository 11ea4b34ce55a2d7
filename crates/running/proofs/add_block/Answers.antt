-- `running::add_block` meets its contract: an element, then the count.
use Rattle.running.proofs.RunningLaws.{block_in, count_in, block_put, block_frame}
use borrow.Author.Rules.{rules}
use Rattle.running.proofs.add_block.Goals as goal

pub bounds-w-at : goal.bounds-w-at
bounds-w-at c = search (rules, block_in)

pub bounds-w-at-2 : goal.bounds-w-at-2
bounds-w-at-2 c = search (rules, count_in)

pub returns : goal.returns
returns c = (search (rules, block_put), search (rules, block_frame))
