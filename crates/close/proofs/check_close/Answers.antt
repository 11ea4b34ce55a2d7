-- `close::check_close` meets its contract: what comes first, then the two of the core.
use Rattle.close.proofs.CloseLaws.{close_first, running_fits, closed_fits, close_none, close_early, close_free}
use Rattle.std.proofs.Common.{rules}
use Rattle.close.proofs.check_close.Goals as goal

pub returns-in_err-check_entry : goal.returns-in_err-check_entry
returns-in_err-check_entry c = search (rules, close_first)

pub is_live-requires : goal.is_live-requires
is_live-requires c = search (rules, running_fits, c.in_ok-check_entry.ensures)

pub returns-then-not-is_live : goal.returns-then-not-is_live
returns-then-not-is_live c = search (rules, close_none, c.in_ok-check_entry.ensures)

pub is_live-requires-2 : goal.is_live-requires-2
is_live-requires-2 c = search (rules, closed_fits, c.in_ok-check_entry.ensures)

pub returns-then-is_live : goal.returns-then-is_live
returns-then-is_live c = search (rules, close_early, c.in_ok-check_entry.ensures)

pub returns : goal.returns
returns c = search (rules, close_free, c.in_ok-check_entry.ensures)
