-- `planner::works::closed_name` meets its contract.
use Rattle.planner.proofs.CodeLaws.WorkLaws.{closed_named}
use borrow.Author.Rules.{rules}
use Rattle.planner.proofs.works.closed_name.Goals as goal

pub returns : goal.returns
returns c = search (rules, closed_named)
