-- `cells::cores::put_numbers` meets its contract: four cells put.
use Rattle.cells.proofs.CoreLaws.{at_second, at_third, at_fourth, put_there, put_frame}
use borrow.Author.Rules.{rules}
use Rattle.cells.proofs.cores.put_numbers.Goals as goal

pub bounds-w-at-2 : goal.bounds-w-at-2
bounds-w-at-2 c = search (rules, at_second)

pub bounds-w-at-3 : goal.bounds-w-at-3
bounds-w-at-3 c = search (rules, at_third)

pub bounds-w-at-4 : goal.bounds-w-at-4
bounds-w-at-4 c = search (rules, at_fourth)

pub returns : goal.returns
returns c = (search (rules, put_there), search (rules, put_frame))
