-- `planner::works::closed_work` meets its contract: none, or what is left of its record, its home stores and its master store.
use Rattle.planner.proofs.CodeLaws.WorkLaws.{closed_none, closed_some}
use borrow.Author.Rules.{rules}
use Rattle.planner.proofs.works.closed_work.Goals as goal

pub returns-then-not-is_live : goal.returns-then-not-is_live
returns-then-not-is_live c = (search (rules, closed_none), search rules)

pub returns : goal.returns
returns c = (search (rules, closed_some), search rules)
