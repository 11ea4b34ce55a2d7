-- `cells::refusals::check_entry` meets its contract: the state, then the core.
use Rattle.std.proofs.Common.{rules}
use Rattle.cells.proofs.EntryLaws.{entry_up, entry_core}
use Rattle.cells.proofs.refusals.check_entry.Goals as goal

pub returns-in_err-check_up : goal.returns-in_err-check_up
returns-in_err-check_up c = search (rules, entry_up)

pub returns : goal.returns
returns c = search (rules, entry_core)
