-- What is claimed of the plan follows from what the buffer holds.
use Prim.Native.Nat.{ℕ}
use mathlib.Core.Path.{◌≡◌, sym, subst}
use mathlib.Core.List.{List}
use Rattle.model.specs.Bytes.{Bytes}
use Rattle.cells.specs.Cells.{world_in}
use Rattle.planner.specs.Plan.{plan}
use Rattle.planner.specs.Met.{PlanMet}
use Rattle.planner.specs.Result.{plan_cells}
use Rattle.planner.proofs.Doing.PlanLaws.{plan_answers}
use Rattle.planner.proofs.Doing.Theorem.{plan_after}
use Rattle.firmware.specs.Plans.{PlansCard}

pub plans_card : (v : List ℕ) (d m : Bytes) (u : List ℕ) → u ≡ plan_cells (plan (world_in v d m)) → PlansCard v d m u
plans_card v d m u e =
    record {
      cells = e;
      answers = plan_answers (world_in v d m);
      met = λ t b s h q. subst (PlanMet plan) (sym q) (plan_after t b s h);
    }
