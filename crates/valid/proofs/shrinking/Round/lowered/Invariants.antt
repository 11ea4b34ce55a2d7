-- `valid::Round::lowered` meets its contract: the cores passed have their counts after the round.
use Rattle.valid.proofs.Lowering.{LoweredBelow}
use Rattle.valid.proofs.shrinking.Round.lowered.Given as goal

abbrev pub invariant-loop-c : goal.invariant-loop-c
invariant-loop-c l = LoweredBelow l.self.layout l.self.records.disk.shape l.self.records.disk.bytes.now l.self.oldest l.self.records.extents.now l.self.records.runs.start l.self.records.runs.count l.next l.c
