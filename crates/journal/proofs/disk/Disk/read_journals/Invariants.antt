-- `journal::Disk::read_journals` meets its contract: the journals of the cores passed were read, one behind the other.
use Rattle.journal.proofs.Reading.{AllRead}
use Rattle.journal.proofs.disk.Disk.read_journals.Given as goal

abbrev pub invariant-loop-c : goal.invariant-loop-c
invariant-loop-c l = AllRead l.y l.self.shape l.self.bytes.now l.tails l.most l.extents l.start l.count l.place l.c
