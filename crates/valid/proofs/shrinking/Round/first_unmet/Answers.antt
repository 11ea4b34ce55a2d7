-- `valid::Round::first_unmet` meets its contract: the records passed are met.
use Rattle.journal.proofs.Tested.{run_of, run_place}
use Rattle.valid.proofs.Lowering.{one_lowered}
use Rattle.valid.proofs.shrinking.Round.first_unmet.Goals as goal

pub loop-j-init : goal.loop-j-init
loop-j-init c = search one_lowered

pub bounds-self-first : goal.bounds-self-first
bounds-self-first c = search (one_lowered, run_of, run_place)

pub returns-then-not-record_met : goal.returns-then-not-record_met
returns-then-not-record_met c = search one_lowered

pub loop-j-preserved : goal.loop-j-preserved
loop-j-preserved c = search one_lowered

pub returns : goal.returns
returns c = search one_lowered
