-- Paper 02, (e): planners that go wrong, each refuted by a tape that is computed.
use Prim.Native.Nat.{ℕ}
use native.Mathlib.Omega.{arith}
use mathlib.Core.Path.{◌≡◌, refl, ap}
use mathlib.Core.List.{List, [], ◌∷◌, ◌++◌, flat_map}
use Rattle.model.specs.Bytes.{Bytes}
use Rattle.model.specs.Command.{World}
use Rattle.model.specs.Tape.{Command, CHECKPOINT, RETIRE}
use Rattle.model.specs.Step.{step, step_at}
use Rattle.model.specs.Printing.{blank_world}
use Rattle.model.specs.declared.Name.{Name}
use Rattle.planner.specs.Plan.{Planned, commands_left, stores_left, in_order, unretired_now, plan_for, plan}
use Rattle.planner.specs.Met.{Planner, PlanAnswers, Plans}
use Rattle.refuted.specs.WrongPlanners.{plan_by, refuses_none, by_core_and_number, running_first, closed_last, bound_as_figure, work_not_taken_off, homed_off_all, closes_as_stores, running_left_out, valid_alone}
use Rattle.refuted.proofs.Tapes.{end_of, format, write, close, stores, checkpoints, cut}
use Rattle.refuted.proofs.PlanChecks.{computes_plans, number_check, commands_check, stores_check, order_check, one_byte_short, refutes_plans}

-- with its own parts it is ours
pub plan_by_lem : (w : World) → plan_by commands_left stores_left in_order unretired_now w ≡ plan w
unfolding plan plan_for
plan_by_lem w = refl

-- ---- the number
-- blank, and down
pub refuses_none_blank : Plans refuses_none step_at → ⊥
unfolding computes_plans
refuses_none_blank = refutes_plans refuses_none number_check [] refl

pub refuses_none_down : Plans refuses_none step_at → ⊥
unfolding computes_plans
refuses_none_down = refutes_plans refuses_none number_check (format 1 1 4 ++ cut) refl

-- a disk slice that is one byte short gets no 1; what is said of any card value, disk and memory is false then
pub refuses_none_short : ((w : World) → PlanAnswers refuses_none w) → ⊥
unfolding computes_plans
refuses_none_short h = let e : ◌≡◌ {A = ℕ} 0 1 = ap (λ (p : Planned). p.number) ((h (one_byte_short blank_world)).other_length refl) in omega arith

-- ---- the order
-- (1,1) closes before (0,1), which takes its block; both are committed
abbrev lower_behind : Bytes
lower_behind = format 2 1 4 ++ write 1 0 0 1 ++ close 1 ++ write 0 0 4 2 ++ close 0 ++ stores 1 3 ++ stores 0 3

pub by_core_and_number_lem : Plans by_core_and_number step_at → ⊥
unfolding computes_plans
by_core_and_number_lem = refutes_plans by_core_and_number order_check lower_behind refl

-- the answers of commands done one after another
abbrev answers : List Command → World → List ℕ
answers [] w = []
answers (k ∷ ks) w = let o = step k w in o.answer ∷ answers ks o.world

-- a CHECKPOINT for its block and a RETIRE, for each in a planner's order
abbrev followed : Planner → World → List ℕ
followed planner w = answers (flat_map (λ (n : Name). CHECKPOINT n.core ∷ RETIRE n.core ∷ []) (planner w).order) w

-- by our order none is refused, by that one the first two are, with 33
abbrev followed_both : World → List (List ℕ)
followed_both w = followed plan w ∷ followed by_core_and_number w ∷ []

pub order_refused : followed_both (end_of lower_behind) ≡ (0 ∷ 0 ∷ 0 ∷ 0 ∷ []) ∷ (33 ∷ 33 ∷ 0 ∷ 0 ∷ []) ∷ []
unfolding computes_plans
order_refused = refl

-- (0,1) is closed, and (1,1) runs
pub running_first_lem : Plans running_first step_at → ⊥
unfolding computes_plans
running_first_lem = refutes_plans running_first order_check (format 2 2 4 ++ write 0 0 0 1 ++ close 0 ++ write 1 1 0 2) refl

-- (0,1) closes before (1,1), which alone is stored
pub closed_last_lem : Plans closed_last step_at → ⊥
unfolding computes_plans
closed_last_lem = refutes_plans closed_last order_check (format 2 2 4 ++ write 0 0 0 1 ++ close 0 ++ write 1 1 0 2 ++ close 1 ++ stores 1 3) refl

-- ---- the figures
-- 6 in place of 5
pub bound_as_figure_lem : Plans bound_as_figure step_at → ⊥
unfolding computes_plans
bound_as_figure_lem = refutes_plans bound_as_figure commands_check (format 1 1 4 ++ write 0 0 0 1 ++ close 0) refl

-- a STORE done: 5 in place of 4
pub work_not_taken_off_lem : Plans work_not_taken_off step_at → ⊥
unfolding computes_plans
work_not_taken_off_lem = refutes_plans work_not_taken_off commands_check (format 1 1 4 ++ write 0 0 0 1 ++ close 0 ++ stores 0 1) refl

-- a home store done: 2 in place of 1
pub home_not_taken_off : Plans work_not_taken_off step_at → ⊥
unfolding computes_plans
home_not_taken_off = refutes_plans work_not_taken_off commands_check (format 1 1 4 ++ write 0 0 0 1 ++ close 0 ++ stores 0 3 ++ checkpoints 0 1) refl

-- a home store of (0,1) done, none of (0,2): 2 in place of 3
pub homed_off_all_lem : Plans homed_off_all step_at → ⊥
unfolding computes_plans
homed_off_all_lem =
    refutes_plans homed_off_all commands_check
    (format 1 2 6 ++ write 0 0 0 1 ++ close 0 ++ stores 0 3 ++ write 0 1 0 2 ++ close 0 ++ stores 0 3 ++ checkpoints 0 1) refl

-- 6 in place of 5
pub closes_as_stores_lem : Plans closes_as_stores step_at → ⊥
unfolding computes_plans
closes_as_stores_lem = refutes_plans closes_as_stores stores_check (format 1 1 4 ++ write 0 0 0 1) refl

-- ---- those that count
pub running_left_out_lem : Plans running_left_out step_at → ⊥
unfolding computes_plans
running_left_out_lem = refutes_plans running_left_out commands_check (format 1 1 4 ++ write 0 0 0 1) refl

-- (0,1) is committed and names (1,1), which runs
pub valid_alone_lem : Plans valid_alone step_at → ⊥
unfolding computes_plans
valid_alone_lem = refutes_plans valid_alone commands_check (format 2 1 4 ++ write 0 0 0 1 ++ write 1 0 4 2 ++ close 0 ++ stores 0 3) refl
