-- What the planner's entry leaves in the lent buffer, and what is claimed of it.
use Rattle.std.specs.Prelude.{ℕ, ◌≡◌, List}
use Rattle.model.specs.Bytes.{Bytes}
use Rattle.model.specs.Step.{step_at}
use Rattle.model.specs.Tape.{run, world_after}
use Rattle.crash.specs.Claims.{IsBytes, Start, StartFits, start_world}
use Rattle.cells.specs.Cells.{world_in}
use Rattle.planner.specs.Plan.{plan}
use Rattle.planner.specs.Met.{PlanAnswers, PlanMet}
use Rattle.planner.specs.Result.{plan_cells}

-- The plan of the card in the cells v over the disk d and memory m was laid into a buffer that then is u. Whatever these are, it is refused as
-- it must be and keeps the bound; and where a tape from one of the three starts left them, it is met.
pub record PlansCard (v : List ℕ) (d m : Bytes) (u : List ℕ) : Type 0 where
  pub cells : u ≡ plan_cells (plan (world_in v d m))
  pub answers : PlanAnswers plan (world_in v d m)
  pub met : (t : Bytes) → IsBytes t → (s : Start) → StartFits s → world_in v d m ≡ world_after (start_world s) (run step_at t (start_world s)) → PlanMet plan (world_in v d m)
