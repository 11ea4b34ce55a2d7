-- `planner::works::homed_at` meets its contract: the oldest's alone.
use Rattle.planner.proofs.CodeLaws.WorkLaws.{homed_other, homed_oldest}
use borrow.Author.Rules.{rules}
use Rattle.planner.proofs.works.homed_at.Goals as goal

pub returns-then-j-ne0 : goal.returns-then-j-ne0
returns-then-j-ne0 c = search (rules, homed_other)

pub returns : goal.returns
returns c = search (rules, homed_oldest)
