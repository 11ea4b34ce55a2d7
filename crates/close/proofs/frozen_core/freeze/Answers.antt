-- `close::frozen_core::freeze` meets its contract: copied and stamped, then none is running.
use Rattle.close.proofs.StateLaws.{stamp_in, frozen_frame, frozen_card}
use Rattle.std.proofs.Common.{rules}
use Rattle.close.proofs.frozen_core.freeze.Goals as goal

pub bounds-w-to : goal.bounds-w-to
bounds-w-to c = search (rules, stamp_in)

pub clear-requires : goal.clear-requires
clear-requires c = search rules

pub returns : goal.returns
returns c = (search (rules, frozen_card), search (rules, frozen_frame))
