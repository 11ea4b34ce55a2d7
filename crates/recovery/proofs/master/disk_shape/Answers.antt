-- `recovery::master::disk_shape` meets its contract: a master's shape is within the limits.
use borrow.Author.Rules.{rules}
use Rattle.recovery.proofs.MasterLaws.{shape_made, shape_missed}
use Rattle.recovery.proofs.master.disk_shape.Goals as goal

pub returns-in_default : goal.returns-in_default
returns-in_default c = search (rules, shape_missed)

pub returns : goal.returns
returns c = search (rules, shape_made)
