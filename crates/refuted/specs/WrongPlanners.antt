-- Planners that go wrong by paper 02's (e): ours save in one part.
use Rattle.std.specs.Prelude.{ℕ, zero, suc, List, [], ◌++◌, map, Bool, not, ◌||◌}
use Rattle.model.specs.Lists.{select, total, sort_by}
use Rattle.model.specs.Card.{core_of}
use Rattle.model.specs.Valid.{in_sequence, is_in}
use Rattle.model.specs.Command.{World, refusal, not_up}
use Rattle.model.specs.Checkpoint.{valid_now}
use Rattle.model.specs.declared.Name.{Name}
use Rattle.crash.specs.Book.{Stage, absent, running, closed, committed, retired, is_committed}
use Rattle.planner.specs.Plan.{Unretired, no_plan, unretired_now, commands_left, stores_left, most_commands, runs, in_order, plan_for}
use Rattle.planner.specs.Met.{Planner}

-- The planner with its parts left open: the commands of a transaction, those of them that store, the order, and the transactions that count.
-- With its own parts it is ours (`proofs/Planners.antt`).
abbrev pub plan_by : (Unretired → ℕ) → (Unretired → ℕ) → (List Unretired → List Unretired) → (World → List Unretired) → Planner
plan_by commands stores order ones w =
    let us = ones w in
    let names : List Name = map (λ (u : Unretired). u.name) (order us) in
    elim (refusal (not_up w []))
    [ zero ↦ record { number = 0; commands = total commands us; stores = total stores us; order = names } | suc n ↦ no_plan (suc n) ]

-- ---- 'A card that is blank or down gets 20 or 22.': none is refused
abbrev pub refuses_none : Planner
refuses_none w = plan_for (unretired_now w)

-- ---- 'The order is by stamp.'
-- by core and number
abbrev pub by_core_and_number : Planner
by_core_and_number = plan_by commands_left stores_left (λ (us : List Unretired). us) unretired_now

-- running ones too, by the 0 in the place of their stamp
abbrev pub running_first : Planner
running_first = plan_by commands_left stores_left (sort_by (λ (u : Unretired). u.stamp)) unretired_now

-- closed ones after the committed ones, whatever their stamp
abbrev is_committed_one : Unretired → Bool
is_committed_one u = is_committed u.stage

abbrev pub closed_last : Planner
closed_last =
    plan_by commands_left stores_left
    (λ (us : List Unretired). in_order (select is_committed_one us) ++ in_order (select (λ (u : Unretired). not (is_committed_one u)) us))
    unretired_now

-- ---- 'how many CLOSE, STORE and CHECKPOINT commands'
-- the bound in place of the figure
abbrev pub bound_as_figure : Planner
bound_as_figure = plan_by most_commands stores_left in_order unretired_now

-- the work done is not taken off
abbrev with_stage : (Stage → Stage) → Unretired → Unretired
with_stage f u = record { name = u.name; stamp = u.stamp; count = u.count; stage = f u.stage }

abbrev not_begun : Stage → Stage
not_begun absent = absent
not_begun running = running
not_begun (closed k) = closed 0
not_begun (committed h) = committed 0
not_begun retired = retired

abbrev pub work_not_taken_off : Planner
work_not_taken_off = plan_by commands_left stores_left in_order (λ (w : World). map (with_stage not_begun) (unretired_now w))

-- the home stores of a core's oldest are taken off all its committed ones
abbrev homed : ℕ → Stage → Stage
homed h absent = absent
homed h running = running
homed h (closed k) = closed k
homed h (committed i) = committed h
homed h retired = retired

abbrev pub homed_off_all : Planner
homed_off_all =
    plan_by commands_left stores_left in_order (λ (w : World).
    map (λ (u : Unretired). with_stage (homed (core_of w.card u.name.core).homed) u) (unretired_now w))

-- CLOSE counts as a store
abbrev pub closes_as_stores : Planner
closes_as_stores = plan_by commands_left commands_left in_order unretired_now

-- ---- 'all that are not retired'
-- running ones are left out
abbrev pub running_left_out : Planner
running_left_out = plan_by commands_left stores_left in_order (λ (w : World). select (λ (u : Unretired). not (runs u)) (unretired_now w))

-- committed ones that are not valid now are left out
abbrev pub valid_alone : Planner
valid_alone =
    plan_by commands_left stores_left in_order (λ (w : World).
    select (λ (u : Unretired). not (is_committed u.stage) || is_in (valid_now in_sequence w) u.name) (unretired_now w))
