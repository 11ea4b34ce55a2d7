-- `planner::buffer::lay_plan` meets its contract: the cells of the plan, or of a refusal.
use borrow.Author.Rules.{rules}
use Rattle.planner.proofs.CodeLaws.BufferLaws.{laid_plan, laid_refused}
use Rattle.planner.proofs.buffer.lay_plan.Goals as goal

pub returns-in-Ok : goal.returns-in-Ok
returns-in-Ok c = search (rules, laid_plan, c.in-Ok.ensures)

pub returns-in-Err : goal.returns-in-Err
returns-in-Err c = search (rules, laid_refused, c.in-Err.ensures)
