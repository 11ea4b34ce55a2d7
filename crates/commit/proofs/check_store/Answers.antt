-- `commit::check_store` meets its contract: what comes first, then the one of the core.
use Rattle.close.proofs.CloseLaws.{closed_fits}
use Rattle.commit.proofs.StoreLaws.{store_first, store_none, store_free}
use Rattle.std.proofs.Common.{rules}
use Rattle.commit.proofs.check_store.Goals as goal

pub returns-in_err-check_entry : goal.returns-in_err-check_entry
returns-in_err-check_entry c = search (rules, store_first)

pub is_live-requires : goal.is_live-requires
is_live-requires c = search (rules, closed_fits, c.in_ok-check_entry.ensures)

pub returns-then-not-is_live : goal.returns-then-not-is_live
returns-then-not-is_live c = search (rules, store_none, c.in_ok-check_entry.ensures)

pub returns : goal.returns
returns c = search (rules, store_free, c.in_ok-check_entry.ensures)
