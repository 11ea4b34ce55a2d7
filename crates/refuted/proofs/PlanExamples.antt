-- Paper 02, (e), computed: plans, and the runs that meet them.
use Prim.Native.Nat.{ℕ}
use mathlib.Core.Path.{◌≡◌, refl}
use mathlib.Core.Bool.{Bool, true}
use mathlib.Core.List.{List, [], ◌∷◌, ◌++◌, map}
use lib.ListN.{length}
use Rattle.model.specs.Lists.{all, total}
use Rattle.model.specs.Bytes.{Bytes}
use Rattle.model.specs.Card.{new_name, stamped}
use Rattle.model.specs.Journal.{name_of}
use Rattle.model.specs.Command.{World}
use Rattle.model.specs.Tape.{CHECKPOINT}
use Rattle.model.specs.Step.{step}
use Rattle.model.specs.Printing.{blank_world}
use Rattle.model.specs.declared.Committed.{Committed}
use Rattle.crash.specs.Book.{running, closed, committed}
use Rattle.planner.specs.Plan.{Unretired, Planned, no_plan, unretired_now, most_commands, runs, plan}
use Rattle.planner.specs.Emptying.{emptying_run, world_done, all_done, stores_done, retired_done, is_emptied}
use Rattle.refuted.specs.Parts.{on_closed, with_card}
use Rattle.refuted.proofs.Tapes.{end_of, format, write, close, stores, checkpoints, cut, recovers}
use Rattle.refuted.proofs.PlanChecks.{computes_plans, one_byte_short}

-- nothing to do
abbrev nothing_left : Planned
nothing_left = record { number = 0; commands = 0; stores = 0; order = [] }

-- ---- one card with all kinds
-- what is looked at, of a world and of the run that empties it: its transactions; the plan; the answer of CHECKPOINT 1; the run's figures in the form of a plan,
-- whether all was answered 0, the stamps of those retired, whether it empties, and the plan after it
pub record Seen : Type 0 where
  pub transactions : List Unretired
  pub planned : Planned
  pub answer : ℕ
  pub figures : Planned
  pub done : Bool
  pub stamps : List ℕ
  pub emptied : Bool
  pub afterwards : Planned

abbrev seen : World → Seen
seen w =
    let ts = emptying_run w in
    let v = world_done w ts in
    record {
      transactions = unretired_now w;
      planned = plan w;
      answer = (step (CHECKPOINT 1) w).answer;
      figures = record { number = 0; commands = length ts; stores = stores_done ts; order = map name_of (retired_done ts) };
      done = all_done ts;
      stamps = map (λ (e : Committed). e.stamp) (retired_done ts);
      emptied = is_emptied v;
      afterwards = plan v;
    }

-- (1,1) and (2,1) name each other. (2,1) has one of three stores done, (0,1) one of two home stores; (1,1) is committed and waits for (2,1);
-- (0,2) and (2,2) run.
abbrev all_kinds : Bytes
all_kinds =
    format 3 5 8 ++ write 1 2 0 1 ++ write 2 2 4 2 ++ write 2 3 0 3 ++ close 2 ++ stores 2 1
    ++ write 0 0 0 4 ++ write 0 1 0 5 ++ close 0 ++ stores 0 4 ++ checkpoints 0 1
    ++ close 1 ++ stores 1 3 ++ write 2 3 4 6 ++ write 0 4 0 7

abbrev all_kinds_plan : Planned
all_kinds_plan =
    record { number = 0; commands = 20; stores = 18; order = new_name 2 1 ∷ new_name 0 1 ∷ new_name 1 1 ∷ new_name 0 2 ∷ new_name 2 2 ∷ [] }

-- CHECKPOINT 1 is refused with 32 now; the run meets the plan, none of its commands is refused, and nothing is left
pub all_kinds_lem : seen (end_of all_kinds)
    ≡ record {
      transactions =
          record { name = new_name 0 1; stamp = 2; count = 2; stage = committed 1 }
          ∷ record { name = new_name 0 2; stamp = 0; count = 1; stage = running }
          ∷ record { name = new_name 1 1; stamp = 3; count = 1; stage = committed 0 }
          ∷ record { name = new_name 2 1; stamp = 1; count = 1; stage = closed 1 }
          ∷ record { name = new_name 2 2; stamp = 0; count = 1; stage = running }
          ∷ [];
      planned = all_kinds_plan;
      answer = 32;
      figures = all_kinds_plan;
      done = true;
      stamps = 1 ∷ 2 ∷ 3 ∷ 4 ∷ 5 ∷ [];
      emptied = true;
      afterwards = nothing_left;
    }
unfolding computes_plans
all_kinds_lem = refl

-- ---- 1, 20, 22, and nothing to do
pub wrong_length_lem : (plan (one_byte_short blank_world) ≡ no_plan 1) × (plan (one_byte_short (end_of (format 1 1 4))) ≡ no_plan 1)
unfolding computes_plans
wrong_length_lem = (refl, refl)

pub blank_plan : plan blank_world ≡ no_plan 20
unfolding computes_plans
blank_plan = refl

pub down_plan : plan (end_of (format 1 1 4 ++ write 0 0 0 1 ++ cut)) ≡ no_plan 22
unfolding computes_plans
down_plan = refl

pub formatted_plan : plan (end_of (format 8 1 4)) ≡ nothing_left
unfolding computes_plans
formatted_plan = refl

-- a transaction comes back in recovery, and the journals are empty after it
pub recovered_plan : plan (end_of (format 1 1 4 ++ write 0 0 0 1 ++ close 0 ++ stores 0 3 ++ cut ++ recovers 2)) ≡ nothing_left
unfolding computes_plans
recovered_plan = refl

-- ---- the bound is met where all are running, one of them without a block
abbrev all_running : Bytes
all_running = format 2 2 4 ++ write 0 0 0 1 ++ write 0 1 0 2 ++ write 1 0 4 3

pub bound_met : (all runs (unretired_now (end_of all_running)) ≡ true)
    × (plan (end_of all_running) ≡ record { number = 0; commands = 12; stores = 10; order = new_name 0 1 ∷ new_name 1 1 ∷ [] })
    × (total most_commands (unretired_now (end_of all_running)) ≡ 12)
unfolding computes_plans
bound_met = (refl, refl, refl)

-- ---- a card that no run made: where all three have the stamp of the committed one, they keep the order of core and number
-- (0,1) is committed with stamp 1, (1,1) closed with 2, (0,2) closed with 3
abbrev three_stamps : Bytes
three_stamps = format 2 2 8 ++ write 0 0 0 1 ++ close 0 ++ stores 0 3 ++ write 1 1 0 2 ++ close 1 ++ write 0 0 4 3 ++ close 0

abbrev equal_stamps : World → World
equal_stamps w = with_card w (on_closed 0 (λ t. stamped t 1) (on_closed 1 (λ t. stamped t 1) w.card))

pub equal_stamps_lem : ((plan (end_of three_stamps)).order ≡ new_name 0 1 ∷ new_name 1 1 ∷ new_name 0 2 ∷ [])
    × ((plan (equal_stamps (end_of three_stamps))).order ≡ new_name 0 1 ∷ new_name 0 2 ∷ new_name 1 1 ∷ [])
unfolding computes_plans
equal_stamps_lem = (refl, refl)
