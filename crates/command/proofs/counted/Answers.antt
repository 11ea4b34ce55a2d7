-- `command::counted` meets its contract: the sum, or the largest number.
use Rattle.command.proofs.CountLaws.{counted_at}
use Rattle.command.proofs.counted.Goals as goal

pub returns : goal.returns
returns c = counted_at _ _ _ _ c.ranges.n.fits c.from.ensures c.saturating_add.ensures
