-- `planner::works::committed_work` meets its contract: what is left of its home stores, and its master store.
use Rattle.planner.proofs.CodeLaws.WorkLaws.{committed_low, committed_some}
use borrow.Author.Rules.{rules}
use Rattle.planner.proofs.works.committed_work.Goals as goal

pub returns : goal.returns
returns c = (search (rules, committed_some), search (rules, committed_low))
