-- `rules::room::writer_count` meets its contract.
use Rattle.rules.proofs.RoomLaws.{count_none, count_some}
use borrow.Author.Rules.{rules}
use Rattle.rules.proofs.room.writer_count.Goals as goal

pub returns-then-not-live : goal.returns-then-not-live
returns-then-not-live c = (search (rules, count_none), search rules)

pub returns : goal.returns
returns c = (search (rules, count_some), search rules)
