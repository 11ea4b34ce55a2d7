-- The theorem: at every point of every run our plan is met.
use mathlib.Core.Path.{◌≡◌, ap}
use mathlib.Core.List.{List, [], ◌∷◌}
use mathlib.Core.Bool.{true}
use Rattle.model.specs.Bytes.{Bytes}
use Rattle.model.specs.Card.{is_up}
use Rattle.model.specs.Command.{World}
use Rattle.model.specs.Step.{step_at}
use Rattle.model.specs.Tape.{TapeStep, Point, run, world_after}
use Rattle.model.proofs.Tape.{run_runs}
use Rattle.crash.specs.Ledger.{Ledger}
use Rattle.crash.specs.Claims.{IsBytes, Start, StartFits, start_world}
use Rattle.crash.proofs.Books.Tests.{clash}
use Rattle.crash.proofs.Runs.RunClaims.{CardKeeps, point_keeps, kept_along}
use Rattle.crash.proofs.Runs.Theorem.{Related, related_blank, related_up, related_down, related_simulation, starts, blank_phase}
use Rattle.planner.specs.Plan.{plan}
use Rattle.planner.specs.Met.{Planner, PlanUp, PlanMet, PlansMet, Plans}
use Rattle.planner.proofs.Doing.PlanLaws.{plan_answers}
use Rattle.planner.proofs.Doing.PlanUp.{plan_up}

plan_met : (l : Ledger) (w : World) → Related l w → PlanMet plan w
plan_met l w r = record { sizes = related_simulation.sizes l w r; answers = plan_answers w; up = up r }
  where
    up : Related l w → is_up w.card.phase ≡ true → PlanUp plan w
    up (related_up u) h = plan_up u
    up (related_blank b) h = clash h (ap is_up (blank_phase b))
    up (related_down d) h = clash h (ap is_up d.phase)

-- of every card whose commands go as the model's
plans_of : (f : TapeStep World) → CardKeeps Related f → Plans plan f
plans_of f go t b s h =
    kept_along Related f go (λ (l : Ledger) (w : World) (ps : List (Point World)). PlansMet plan w ps) plan_met (λ l w p ps here g rest. (plan_met l w here, rest))
    t b (starts s h) (run_runs f t (start_world s))

-- Paper 02, (e): our plan is met at every point of every run.
pub plans : Plans plan step_at
plans = plans_of step_at (point_keeps Related related_simulation)

-- so at its end
last_met : (planner : Planner) (w : World) (ps : List (Point World)) → PlansMet planner w ps → PlanMet planner (world_after w ps)
unfolding world_after
last_met planner w [] m = m
last_met planner w (p ∷ ps) m = last_met planner p.outcome.world ps m.1

pub met_after : (planner : Planner) → Plans planner step_at → (t : Bytes) → IsBytes t → (s : Start) → StartFits s
    → PlanMet planner (world_after (start_world s) (run step_at t (start_world s)))
met_after planner h t b s f = last_met planner (start_world s) (run step_at t (start_world s)) (h t b s f)

pub plan_after : (t : Bytes) → IsBytes t → (s : Start) → StartFits s → PlanMet plan (world_after (start_world s) (run step_at t (start_world s)))
plan_after = met_after plan plans
