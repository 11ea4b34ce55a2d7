-- `journal::Disk::journal_end` meets its contract: past the records read from where the walk stands the same end is found as from the tail.
use Rattle.journal.proofs.Ending.{SameEnd}
use Rattle.journal.proofs.disk.Disk.journal_end.Given as goal

abbrev pub invariant-loop : goal.invariant-loop
invariant-loop l = SameEnd l.y l.self.shape l.self.bytes.now l.c l.fn.t l.counter l.w
