-- `cells::phases::blank` meets its contract.
use Rattle.cells.proofs.PhaseLaws.{blank_left, blank_seen, blank_frame}
use Rattle.cells.proofs.phases.blank.Goals as goal

pub returns : goal.returns
returns c = (blank_left, blank_seen, blank_frame _ c.told-w)
