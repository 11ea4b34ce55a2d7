-- `journal::Disk::journal_end` meets its contract: past the records read from where the walk stands the same end is found as from the tail.
use borrow.Author.Rules.{rules}
use Rattle.journal.proofs.Reading.{hit_fits, hit_number}
use Rattle.journal.proofs.Ending.{same_first, ends_here, ends_last, same_next}
use Rattle.journal.proofs.disk.Disk.journal_end.Goals as goal

pub loop-init : goal.loop-init
loop-init c = search same_first

pub returns-in_err-e : goal.returns-in_err-e
returns-in_err-e c = search (rules, ends_here)

pub advance-w-requires : goal.advance-w-requires
advance-w-requires c = search (rules, hit_fits, hit_number)

pub loop-preserved : goal.loop-preserved
loop-preserved c = same_next _ _ _ _ _ _ _ c.loop.invariant _ c.read_record.ensures c.loop-test.true _ c.in_ok-e.was _ c.advance-w.ensures

pub returns : goal.returns
returns c = search (rules, ends_last)
