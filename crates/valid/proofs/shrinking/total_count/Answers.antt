-- `valid::total_count` meets its contract: the sum of the counts passed.
use Rattle.valid.proofs.Lowering.{all_counted, total_fits}
use Rattle.valid.proofs.shrinking.total_count.Goals as goal

pub loop-c-init : goal.loop-c-init
loop-c-init c = search all_counted

pub overflow_add-n : goal.overflow_add-n
overflow_add-n c = search (all_counted, total_fits)

pub loop-c-preserved : goal.loop-c-preserved
loop-c-preserved c = search all_counted

pub returns : goal.returns
returns c = search all_counted
