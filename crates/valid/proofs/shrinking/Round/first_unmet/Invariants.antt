-- `valid::Round::first_unmet` meets its contract: the records passed are met.
use Rattle.std.specs.Prelude.{get_or}
use Rattle.valid.proofs.Lowering.{RecordsMet}
use Rattle.valid.proofs.shrinking.Round.first_unmet.Given as goal

abbrev pub invariant-loop-j : goal.invariant-loop-j
invariant-loop-j l = RecordsMet l.self.layout l.self.records.disk.shape l.self.records.disk.bytes.now l.self.oldest l.self.records.extents.now l.self.records.runs.count l.c (get_or l.self.records.runs.start l.c 0) l.j
