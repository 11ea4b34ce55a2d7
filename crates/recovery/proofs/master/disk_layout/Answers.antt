-- `recovery::master::disk_layout` meets its contract: the layout that the first block gives.
use borrow.Author.Rules.{rules}
use Rattle.recovery.proofs.MasterLaws.{layout_read}
use Rattle.recovery.proofs.master.disk_layout.Goals as goal

pub returns : goal.returns
returns c = search (rules, layout_read)
