-- `retire::stored_master` meets its contract: the master in block 0, then the cells.
use Rattle.oldest.proofs.CardLaws.{shape_range}
use Rattle.retire.proofs.MasterLaws.{moved_past, master_stored}
use borrow.Author.Rules.{rules}
use Rattle.retire.proofs.stored_master.Goals as goal

pub moved_tail-t-requires : goal.moved_tail-t-requires
moved_tail-t-requires c = search (rules, shape_range)

pub retire_card-requires : goal.retire_card-requires
retire_card-requires c = search (rules, moved_past)

pub returns : goal.returns
returns c = search (rules, master_stored)
