-- `planner::planning::plan` meets its contract: refused, or planned.
use Rattle.planner.proofs.CodeLaws.AnswerLaws.{answer_refused, plan_long, answer_planned}
use borrow.Author.Rules.{rules}
use Rattle.planner.proofs.planning.plan.Goals as goal

pub returns-in_err-check_up : goal.returns-in_err-check_up
returns-in_err-check_up c = search (rules, answer_refused)

pub plan_up-requires : goal.plan_up-requires
plan_up-requires c = plan_long _ _ c.args.memory.now c.in_ok-check_up.ensures

pub returns : goal.returns
returns c = search (rules, answer_planned, c.in_ok-check_up.ensures)
