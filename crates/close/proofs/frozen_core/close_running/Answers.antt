-- `close::frozen_core::close_running` meets its contract: frozen, counted, and the count of closes.
use Rattle.close.proofs.StateLaws.{closes_in, closed_card_lem, closed_frame}
use Rattle.std.proofs.Common.{rules}
use Rattle.close.proofs.frozen_core.close_running.Goals as goal

pub count_close-requires : goal.count_close-requires
count_close-requires c = search rules

pub bounds-w-4-2 : goal.bounds-w-4-2
bounds-w-4-2 c = search (rules, closes_in)

pub returns : goal.returns
returns c = (search (rules, closed_card_lem), search (rules, closed_frame))
