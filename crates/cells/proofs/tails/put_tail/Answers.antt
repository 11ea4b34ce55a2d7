-- `cells::tails::put_tail` meets its contract: two cells are put.
use Rattle.cells.proofs.TailLaws.{position_in, tail_put, tail_frame}
use borrow.Author.Rules.{rules}
use Rattle.cells.proofs.tails.put_tail.Goals as goal

pub bounds-w-at-2 : goal.bounds-w-at-2
bounds-w-at-2 c = search (rules, position_in)

pub returns : goal.returns
returns c = (search (rules, tail_put), search (rules, tail_frame))
