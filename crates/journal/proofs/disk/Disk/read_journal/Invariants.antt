-- `journal::Disk::read_journal` meets its contract: what was put in and what the walk reads on are the journal.
use Rattle.journal.proofs.Reading.{ReadTo}
use Rattle.journal.proofs.disk.Disk.read_journal.Given as goal

abbrev pub invariant-loop-n : goal.invariant-loop-n
invariant-loop-n l = ReadTo l.y l.self.shape l.self.bytes.now l.c l.fn.t l.most l.first l.initial.extents l.extents l.w l.n
