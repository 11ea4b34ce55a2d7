-- `transaction::write_ruled` meets its contract: refused for want of room, or the four bytes in memory and the cells by the rule.
use Rattle.transaction.proofs.CommandLaws.{found_own, no_ninth, ruled_refused, ruled_done}
use borrow.Author.Rules.{rules}
use Rattle.transaction.proofs.write_ruled.Goals as goal

pub returns-in_err-check_room : goal.returns-in_err-check_room
returns-in_err-check_room c = ruled_refused _ _ _ _ _ _ _ _ c.told-w c.requires _ c.find-f.ensures.0 _ c.in_err-check_room.ensures _ (search rules)

pub write_state-requires : goal.write_state-requires
write_state-requires c = (search rules, found_own _ _ _ _ c.find-f.ensures.0, no_ninth _ _ c.find-f.result c.in_ok-check_room.ensures)

pub returns : goal.returns
returns c = search (rules, ruled_done, c.in_ok-check_room.ensures)
