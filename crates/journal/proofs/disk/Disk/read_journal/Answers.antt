-- `journal::Disk::read_journal` meets its contract: what was put in and what the walk reads on are the journal.
use borrow.Author.Rules.{rules}
use Rattle.journal.proofs.Reading.{read_none, read_more, read_counted, read_full, read_end, hit_fits, hit_number}
use Rattle.journal.proofs.disk.Disk.read_journal.Goals as goal

pub loop-n-init : goal.loop-n-init
loop-n-init c = search (rules, read_none)

pub returns-then-w-lt2 : goal.returns-then-w-lt2
returns-then-w-lt2 c = search (rules, read_full)

pub returns-in_default : goal.returns-in_default
returns-in_default c = search (rules, read_end)

pub advance-w-requires : goal.advance-w-requires
advance-w-requires c = search (rules, hit_fits, hit_number)

pub loop-n-preserved : goal.loop-n-preserved
loop-n-preserved c = search (rules, read_more)

pub returns : goal.returns
returns c = search (rules, read_counted)
