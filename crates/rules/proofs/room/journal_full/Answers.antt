-- `rules::room::journal_full` meets its contract.
use Rattle.rules.proofs.RoomLaws.{journal_test}
use borrow.Author.Rules.{rules}
use Rattle.rules.proofs.room.journal_full.Goals as goal

pub returns : goal.returns
returns c = search (rules, journal_test)
