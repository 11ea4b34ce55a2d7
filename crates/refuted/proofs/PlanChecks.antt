-- Tests that a plan can be put to by computing, at the end of a tape's run. Each follows from what is claimed of a planner, so one that fails
-- a test is refuted.
use Prim.Native.Nat.{ℕ}
use mathlib.Core.Path.{◌≡◌, refl, ap}
use mathlib.Core.Bool.{Bool, true, cond}
use mathlib.Core.List.{map}
use lib.ListN.{length, drop}
use lib.Dec.{eqb}
use borrow.Author.Tests.{eq-eqb}
use Rattle.model.specs.Lists.{total, insert_by, sort_into, sort_by}
use Rattle.model.specs.Bytes.{Bytes}
use Rattle.model.specs.Card.{is_blank, is_up, is_down, same_name}
use Rattle.model.specs.Journal.{name_of}
use Rattle.model.specs.Command.{World}
use Rattle.model.specs.Step.{step_at}
use Rattle.model.specs.Printing.{blank_world}
use Rattle.model.specs.declared.Phase.{Phase}
use Rattle.model.specs.declared.Phase.TheVariants.{Blank, Up, Down}
use Rattle.model.proofs.Valid.{same_name_refl}
use Rattle.model.proofs.Computes.{computes}
use Rattle.crash.specs.Claims.{IsBytes, start_world}
use Rattle.planner.specs.Plan.{Planned, no_plan, committed_as, committed_ones, closed_as, running_as, unretired_of, unretired_now, closes_for, stores_for, closes_left, stores_left, commands_left, most_commands, runs, in_order, plan_for, plan}
use Rattle.planner.specs.Emptying.{oldest_ones, choices, first_choice, next_command, doing, emptying_run, world_done, all_done, stores_done, retired_by, retired_done, is_empty, only_running, is_emptied}
use Rattle.planner.specs.Met.{Planner, PlanUp, PlanMet, Plans}
use Rattle.planner.proofs.Doing.Theorem.{met_after}
use Rattle.refuted.proofs.Checks.{same_list, same_lists, asked, blank_start, blank_fits, Fails, failed}
use Rattle.refuted.proofs.Tapes.{end_of}

-- a test of a plan that follows from what is claimed of its planner
pub record PlanCheck : Type 0 where
  pub test : Planned → World → Bool
  pub follows : (planner : Planner) (w : World) → PlanMet planner w → test (planner w) w ≡ true

-- the number: 20 of a blank card, 22 of one that is down
unfoldable pub number_for : Phase → ℕ
number_for Blank = 20
number_for Up = 0
number_for Down = 22

unfoldable pub number_test : Planned → World → Bool
number_test p w = eqb p.number (number_for w.card.phase)

number_for_lem : (x : Phase) (p : Planned) → (is_up x ≡ true → p.number ≡ 0) → (is_blank x ≡ true → p ≡ no_plan 20) → (is_down x ≡ true → p ≡ no_plan 22)
    → p.number ≡ number_for x
unfolding number_for
number_for_lem Blank p up blank down = ap (λ (q : Planned). q.number) (blank refl)
number_for_lem Up p up blank down = up refl
number_for_lem Down p up blank down = ap (λ (q : Planned). q.number) (down refl)

pub number_follows : (planner : Planner) (w : World) → PlanMet planner w → number_test (planner w) w ≡ true
unfolding number_test
number_follows planner w m = eq-eqb _ _ (number_for_lem w.card.phase (planner w) (m.answers.up m.sizes) (m.answers.blank m.sizes) (m.answers.down m.sizes))

abbrev pub number_check : PlanCheck
number_check = record { test = number_test; follows = number_follows }

-- of a card that is up: commands, stores and order are those of the run that empties
abbrev up_test : (Planned → World → Bool) → Planned → World → Bool
up_test test p w = cond (is_up w.card.phase) (test p w) true

pub up_follows : (test : Planned → World → Bool) → ((planner : Planner) (w : World) → PlanUp planner w → test (planner w) w ≡ true)
    → (planner : Planner) (w : World) → PlanMet planner w → up_test test (planner w) w ≡ true
up_follows test h planner w m = asked (is_up w.card.phase) (λ e. h planner w (m.up e))

abbrev pub commands_check : PlanCheck
commands_check =
    let test : Planned → World → Bool = λ p w. eqb p.commands (length (emptying_run w)) in
    record { test = up_test test; follows = up_follows test (λ planner w u. eq-eqb _ _ u.met.commands) }

abbrev pub stores_check : PlanCheck
stores_check =
    let test : Planned → World → Bool = λ p w. eqb p.stores (stores_done (emptying_run w)) in
    record { test = up_test test; follows = up_follows test (λ planner w u. eq-eqb _ _ u.met.stores) }

abbrev pub order_check : PlanCheck
order_check =
    let test : Planned → World → Bool = λ p w. same_list same_name p.order (map name_of (retired_done (emptying_run w))) in
    record { test = up_test test; follows = up_follows test (λ planner w u. same_lists same_name same_name_refl u.met.order) }

-- ---- a planner that fails a test at the end of a tape
plan_met : (planner : Planner) (t : Bytes) → Plans planner step_at → IsBytes t → PlanMet planner (end_of t)
unfolding blank_world start_world
plan_met planner t h b = met_after planner h t b blank_start blank_fits

pub plans_hold : (planner : Planner) (c : PlanCheck) (t : Bytes) → Plans planner step_at → IsBytes t → c.test (planner (end_of t)) (end_of t) ≡ true
plans_hold planner c t h b = c.follows planner (end_of t) (plan_met planner t h b)

abbrev pub PlanFails : Planner → PlanCheck → Bytes → Type 0
PlanFails planner c t = let w = end_of t in Fails t (c.test (planner w) w)

pub refutes_plans : (planner : Planner) (c : PlanCheck) (t : Bytes) → PlanFails planner c t → Plans planner step_at → ⊥
refutes_plans planner c t f h = failed t _ f (plans_hold planner c t h)

-- ---- a slice that is too short
abbrev pub one_byte_short : World → World
one_byte_short w = record { card = w.card; disk = drop 1 w.disk; memory = w.memory }

-- every definition that a plan, the run that empties and a test of them compute with
unfoldable pub computes_plans : Unit {0}
unfolding computes same_list total insert_by sort_into sort_by committed_as committed_ones closed_as running_as unretired_of unretired_now closes_for stores_for closes_left stores_left commands_left most_commands runs in_order plan_for plan oldest_ones choices first_choice next_command doing emptying_run world_done all_done stores_done retired_by retired_done is_empty only_running is_emptied number_for number_test
computes_plans = tt
