-- `close::frozen_core::copy_running` meets its contract. Invariant: the first i cells are copied.
use Rattle.std.proofs.Common.{rules}
use Rattle.close.proofs.StateLaws.{moved_start, from_in, to_in, moved_more, moved_all}
use Rattle.close.proofs.frozen_core.copy_running.Goals as goal

pub loop-i-init : goal.loop-i-init
loop-i-init c = (search rules, search rules, moved_start _ _)

pub bounds-w-from : goal.bounds-w-from
bounds-w-from c = search (rules, from_in)

pub bounds-w-to : goal.bounds-w-to
bounds-w-to c = search (rules, to_in)

pub loop-i-preserved : goal.loop-i-preserved
loop-i-preserved c = (search rules, search rules, search (rules, moved_more))

pub returns : goal.returns
returns c = (search (rules, moved_all), search rules)
