-- `rules::room::numbers_end` meets its contract.
use Rattle.rules.proofs.RoomLaws.{number_opens}
use borrow.Author.Rules.{rules}
use Rattle.rules.proofs.room.numbers_end.Goals as goal

pub returns : goal.returns
returns c = search (rules, number_opens)
