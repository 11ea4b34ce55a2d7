-- `rules::room::check_room` meets its contract: the refusals in turn.
use Rattle.rules.proofs.RoomLaws.{refused_ninth, refused_limit, refused_journal, refused_numbers, refused_not}
use borrow.Author.Rules.{rules}
use Rattle.rules.proofs.room.check_room.Goals as goal

pub returns-then-takes_past : goal.returns-then-takes_past
returns-then-takes_past c = search (rules, refused_ninth)

pub returns-then-takes_past-2 : goal.returns-then-takes_past-2
returns-then-takes_past-2 c = search (rules, refused_limit)

pub returns-then-journal_full : goal.returns-then-journal_full
returns-then-journal_full c = search (rules, refused_journal)

pub returns-then-numbers_end : goal.returns-then-numbers_end
returns-then-numbers_end c = search (rules, refused_numbers)

pub returns : goal.returns
returns c = search (rules, refused_not)
