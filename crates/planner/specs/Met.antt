-- What is claimed of a planner, any function from worlds to plans: so that it can be proved of ours and refuted of others.
use Rattle.std.specs.Prelude.{suc, ◌≤◌, ◌<◌, ◌≡◌, ◌≢◌, List, [], ◌∷◌, map, true, false, length}
use Rattle.std.proofs.Math.Option.{none}
use Rattle.model.specs.Lists.{all, total, Pairs}
use Rattle.model.specs.Card.{is_blank, is_up, is_down}
use Rattle.model.specs.Journal.{name_of}
use Rattle.model.specs.Command.{World, wrong_length}
use Rattle.model.specs.Step.{step, world_by}
use Rattle.model.specs.Tape.{Command, TapeStep, Point}
use Rattle.model.specs.declared.Committed.{Committed}
use Rattle.crash.specs.Claims.{OnRuns, Start, StartFits, start_world}
use Rattle.planner.specs.Plan.{Planned, no_plan, unretired_now, most_for, most_commands}
use Rattle.planner.specs.Emptying.{enough, emptying_run, next_command, world_done, all_done, stores_done, retired_done, only_running, is_emptied, is_emptying}

abbrev pub Planner : Type 0
Planner = World → Planned

-- ---- of any card value, disk and memory
pub record PlanAnswers (planner : Planner) (w : World) : Type 0 where
  -- 'Order: 1, 2, 3, then 20 to 23'; 'A card that is blank or down gets 20 or 22.'
  pub other_length : wrong_length w ≡ true → planner w ≡ no_plan 1
  pub blank : wrong_length w ≡ false → is_blank w.card.phase ≡ true → planner w ≡ no_plan 20
  pub down : wrong_length w ≡ false → is_down w.card.phase ≡ true → planner w ≡ no_plan 22
  -- and no other is refused
  pub up : wrong_length w ≡ false → is_up w.card.phase ≡ true → (planner w).number ≡ 0
  -- 'It is at most 2 + 2 × (blocks it took) + 2 for each transaction, summed over all that are not retired.'
  pub bounded : (planner w).commands ≤ total most_commands (unretired_now w)

-- ---- on a disk that the card formatted
-- 'The figure is met exactly by doing it': the run is answered 0 throughout, it ends because nothing is left to do, and all is empty; commands,
-- stores and order are its own, and the stamps of those retired ascend
pub record MetByDoing (p : Planned) (w : World) : Type 0 where
  pub done : all_done (emptying_run w) ≡ true
  pub ends : length (emptying_run w) < enough
  pub no_more : next_command (world_done w (emptying_run w)) ≡ none
  pub emptied : is_emptied (world_done w (emptying_run w)) ≡ true
  pub commands : p.commands ≡ length (emptying_run w)
  pub stores : p.stores ≡ stores_done (emptying_run w)
  pub order : p.order ≡ map name_of (retired_done (emptying_run w))
  pub stamps : Pairs ◌<◌ (map (λ (e : Committed). e.stamp) (retired_done (emptying_run w)))

-- of a card that is up
pub record PlanUp (planner : Planner) (w : World) : Type 0 where
  pub met : MetByDoing (planner w) w
  -- 'no shorter run of those commands empties them', whatever cores they are for, refused ones counted
  pub least : (ks : List Command) → all is_emptying ks ≡ true → is_emptied (world_by ks w) ≡ true → (planner w).commands ≤ length ks
  -- what is done lowers the figure by one, what is refused by nothing, and it is 0 exactly where all is empty
  pub lowered : (k : Command) → is_emptying k ≡ true → (step k w).answer ≡ 0 → suc (planner (step k w).world).commands ≡ (planner w).commands
  pub unlowered : (k : Command) → is_emptying k ≡ true → (step k w).answer ≢ 0 → (planner (step k w).world).commands ≡ (planner w).commands
  pub zero_emptied : (planner w).commands ≡ 0 → is_emptied w ≡ true
  pub emptied_zero : is_emptied w ≡ true → (planner w).commands ≡ 0
  -- the bound is met where all are running
  pub bound_met : only_running w ≡ true → (planner w).commands ≡ total most_commands (unretired_now w)
  -- the sum is that over those which the run retires, by the blocks of their records
  pub summed : total most_commands (unretired_now w) ≡ total (λ (e : Committed). most_for e.count) (retired_done (emptying_run w))

-- blank and down go by the phase alone, since the slices have their lengths
pub record PlanMet (planner : Planner) (w : World) : Type 0 where
  pub sizes : wrong_length w ≡ false
  pub answers : PlanAnswers planner w
  pub up : is_up w.card.phase ≡ true → PlanUp planner w

-- at every point of a run and at its end
abbrev pub PlansMet : Planner → World → List (Point World) → Type 0
PlansMet planner w [] = PlanMet planner w
PlansMet planner w (p ∷ ps) = PlanMet planner w × PlansMet planner p.outcome.world ps

-- from all three starts. What is done from there is done by the model's `step`, whatever card f is
abbrev pub Plans : Planner → TapeStep World → Type 0
Plans planner f = OnRuns StartFits start_world f (λ (s : Start) (ps : List (Point World)). PlansMet planner (start_world s) ps)
