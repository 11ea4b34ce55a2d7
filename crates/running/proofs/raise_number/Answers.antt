-- `running::raise_number` meets its contract: the cell of the core stays, or is put.
use Rattle.cells.proofs.FitsLaws.{frame_same}
use Rattle.running.proofs.RunningLaws.{number_stays, number_raised, number_frame}
use borrow.Author.Rules.{rules}
use Rattle.running.proofs.raise_number.Goals as goal

pub returns-then-n-number_in : goal.returns-then-n-number_in
returns-then-n-number_in c = (search (rules, number_stays), frame_same _ _ _)

pub returns : goal.returns
returns c = (search (rules, number_raised), search (rules, number_frame))
