-- `firmware::session::lay_plan` meets its contract: what the planner lays, and what is claimed of it.
use borrow.Author.Rules.{rules}
use Rattle.firmware.proofs.PlanLaws.{plans_card}
use Rattle.firmware.proofs.session.lay_plan.Goals as goal

pub returns : goal.returns
returns c = search (rules, plans_card)
