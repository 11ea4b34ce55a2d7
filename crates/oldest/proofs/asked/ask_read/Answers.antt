-- `oldest::asked::ask_read` meets its contract: none is committed, or what is asked of the oldest transaction.
use borrow.Author.Rules.{rules}
use Rattle.oldest.proofs.CardLaws.{core_low, shape_range}
use Rattle.oldest.proofs.CountLaws.{start_low, read_tested}
use Rattle.oldest.proofs.AskedLaws.{none_asked, oldest_found, found_refused, found_asked}
use Rattle.oldest.proofs.asked.ask_read.Goals as goal

pub oldest_of-requires : goal.oldest_of-requires
oldest_of-requires c = search (rules, core_low, start_low)

pub returns-in_default : goal.returns-in_default
returns-in_default c = search (rules, none_asked)

pub invariant_of-disk : goal.invariant_of-disk
invariant_of-disk c = search (rules, shape_range)

pub invariant_of-all : goal.invariant_of-all
invariant_of-all c = record { tested = read_tested _ _ c.shape_of.ensures _ _ _ _ c.read_committed-runs.ensures }

pub check_oldest-requires : goal.check_oldest-requires
check_oldest-requires c = (c.shape_of.ensures, search (rules, oldest_found))

pub returns-in_err-check_oldest : goal.returns-in_err-check_oldest
returns-in_err-check_oldest c = search (rules, found_refused, c.in_err-check_oldest.ensures)

pub returns : goal.returns
returns c = search (rules, found_asked, c.in_ok-check_oldest.ensures)
