-- `cells::phases::come_up` meets its contract: zeroed, then phase and shape, then the tails.
use Rattle.cells.proofs.PhaseLaws.{up_fresh, up_seen, up_frame}
use Rattle.cells.proofs.phases.come_up.Goals as goal

pub begin_all-requires : goal.begin_all-requires
begin_all-requires c = up_fresh _ _ _ c.blank.ensures.1 c.put_shape.ensures.0

pub returns : goal.returns
returns c = (
  up_seen _ _ _ c.blank.ensures.1 c.put_shape.ensures.0 _ _ c.begin_all.ensures.0,
  up_frame _ _ _ _ c.blank.ensures.2 c.put_shape.ensures.1 c.begin_all.ensures.1,
)
