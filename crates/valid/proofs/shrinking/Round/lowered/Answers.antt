-- `valid::Round::lowered` meets its contract: the cores passed have their counts after the round.
use Rattle.valid.proofs.Lowering.{all_lowered}
use Rattle.valid.proofs.shrinking.Round.lowered.Goals as goal

pub loop-c-init : goal.loop-c-init
loop-c-init c = search all_lowered

pub loop-c-preserved : goal.loop-c-preserved
loop-c-preserved c = search all_lowered

pub returns : goal.returns
returns c = search all_lowered
