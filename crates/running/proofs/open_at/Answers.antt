-- `running::open_at` meets its contract.
use Rattle.cells.proofs.TransactionLaws.{open_live}
use Rattle.running.proofs.RunningLaws.{still_in, opened_there, opened_frame}
use Rattle.cells.proofs.FitsLaws.{frame_same}
use borrow.Author.Rules.{rules}
use Rattle.running.proofs.open_at.Goals as goal

pub returns-then-is_live : goal.returns-then-is_live
returns-then-is_live c = (search (rules, open_live), frame_same _ _ _)

pub bounds-w-at : goal.bounds-w-at
bounds-w-at c = search (rules, still_in)

pub returns : goal.returns
returns c = (search (rules, opened_there), search (rules, opened_frame))
