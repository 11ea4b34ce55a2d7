-- `planner::works::running_work` meets its contract: none, or all of its record, its home stores and its master store.
use Rattle.planner.proofs.CodeLaws.WorkLaws.{running_none, running_some}
use borrow.Author.Rules.{rules}
use Rattle.planner.proofs.works.running_work.Goals as goal

pub returns-then-not-is_live : goal.returns-then-not-is_live
returns-then-not-is_live c = (search (rules, running_none), search rules)

pub returns : goal.returns
returns c = (search (rules, running_some), search rules)
