-- `rules::room::closed_blocks` meets its contract.
use Rattle.rules.proofs.RoomLaws.{used_none, used_some}
use borrow.Author.Rules.{rules}
use Rattle.rules.proofs.room.closed_blocks.Goals as goal

pub returns-then-not-is_live : goal.returns-then-not-is_live
returns-then-not-is_live c = (search (rules, used_none), search rules)

pub returns : goal.returns
returns c = (search (rules, used_some), search rules)
