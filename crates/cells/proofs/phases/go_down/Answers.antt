-- `cells::phases::go_down` meets its contract: the phase is put into zeroed cells.
use Rattle.cells.proofs.PhaseLaws.{down_left, down_seen, down_frame}
use borrow.Author.Rules.{rules}
use Rattle.cells.proofs.phases.go_down.Goals as goal

pub returns : goal.returns
returns c = (search (rules, down_left), search (rules, down_seen), search (rules, down_frame))
