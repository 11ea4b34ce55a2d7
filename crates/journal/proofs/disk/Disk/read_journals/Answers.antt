-- `journal::Disk::read_journals` meets its contract: the journals of the cores passed were read, one behind the other.
use borrow.Author.Rules.{rules}
use Rattle.journal.proofs.Reading.{all_none, all_room, all_sum, all_more, all_reads, all_tested}
use Rattle.journal.proofs.disk.Disk.read_journals.Goals as goal

pub loop-c-init : goal.loop-c-init
loop-c-init c = search (rules, all_none)

pub loop-c-preserved : goal.loop-c-preserved
loop-c-preserved c = search (rules, all_more)

pub returns : goal.returns
returns c = (search (rules, all_reads), search (rules, all_tested))

pub read_journal-n-requires : goal.read_journal-n-requires
read_journal-n-requires c = search (rules, all_room)

pub overflow_add-place : goal.overflow_add-place
overflow_add-place c = search (rules, all_sum)
