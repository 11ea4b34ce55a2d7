-- `journal::Disk::read_record` meets its contract: each return is one case of `read_record`.
use borrow.Author.Rules.{rules}
use Rattle.journal.proofs.OneRecord.{end_descriptor, end_fields, end_room, end_commit, whole_record}
use Rattle.journal.proofs.disk.Disk.read_record.Goals as goal

pub returns-then-lacks_descriptor : goal.returns-then-lacks_descriptor
returns-then-lacks_descriptor c = search (rules, end_descriptor)

pub returns-in_default : goal.returns-in_default
returns-in_default c = search (rules, end_fields, c.in_default.not-Some)

pub returns-then-left-n : goal.returns-then-left-n
returns-then-left-n c = search (rules, end_room)

pub returns-in_default-read_commit : goal.returns-in_default-read_commit
returns-in_default-read_commit c = search (rules, end_commit, c.in_default-read_commit.not-Some)

pub returns : goal.returns
returns c = search (rules, whole_record)
