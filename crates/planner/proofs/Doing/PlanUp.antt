-- Our plan of a card that is up is met by doing it, no shorter run empties the journals, and the bound is met where all are running.
use Prim.Native.Nat.{ℕ, suc, ◌≤◌, ◌<◌}
use native.Mathlib.Omega.{arith}
use mathlib.Core.Path.{◌≡◌, refl, sym, ap, ◌∙◌, subst}
use mathlib.Core.Logic.{◌≢◌}
use mathlib.Core.List.{List, [], ◌∷◌, map, map-map}
use mathlib.Core.Bool.{true, false≢true}
use lib.ListN.{length}
use Rattle.model.specs.Lists.{Each, Pairs, all, total}
use Rattle.model.specs.Journal.{name_of}
use Rattle.model.specs.Command.{World, Outcome}
use Rattle.model.specs.Valid.{in_sequence}
use Rattle.model.specs.Step.{step, world_by}
use Rattle.model.specs.Tape.{Command, FORMAT, WRITE, CLOSE, STORE, CHECKPOINT, CUT, RECOVER, RETIRE}
use Rattle.model.specs.declared.Committed.{Committed}
use Rattle.model.proofs.Command.{step_refused}
use Rattle.model.proofs.Base.{ℕ_discrete}
use Rattle.model.proofs.Lists.{mem_each, and_left, and_right}
use Rattle.crash.specs.Ledger.{Ledger, refusals_of}
use Rattle.crash.proofs.Books.Tests.{impossible}
use Rattle.crash.proofs.Disk.Relation.{WellFormed}
use Rattle.model.proofs.OneStore.{lengths_right}
use Rattle.crash.proofs.Runs.UpSteps.{RelatedUp}
use Rattle.crash.proofs.Runs.Unrefused.{may_close, may_store, may_checkpoint, may_retire}
use Rattle.planner.specs.Plan.{Unretired, Planned, commands_left, unretired_now, in_order, plan_for, plan}
use Rattle.planner.specs.Emptying.{enough, emptying_run, retired_done, is_empty, is_emptied, is_emptying}
use Rattle.planner.specs.Met.{MetByDoing, PlanUp}
use Rattle.planner.proofs.Transactions.Replaced.{Stamped, order_from}
use Rattle.planner.proofs.Transactions.Orders.{order_names, order_ascends}
use Rattle.planner.proofs.Transactions.Figures.{bound, bound_running, none_left_empty}
use Rattle.planner.proofs.Transactions.LedgerList.{ledger_list, list_up}
use Rattle.planner.proofs.Transactions.ListMembers.{member}
use Rattle.planner.proofs.Transactions.ListStamps.{distinct_stamps}
use Rattle.planner.proofs.Transactions.ListFacts.{total_blocks, running_up, emptied_up}
use Rattle.planner.proofs.Doing.RunLaws.{figure, with_stamp, RunIs, run_is}
use Rattle.planner.proofs.Doing.Answered.{unrefused}
use Rattle.planner.proofs.Doing.Lowering.{IsUp, LoweredTo, figure_lowered, ordered_up}
use Rattle.planner.proofs.Doing.StoreStep.{store_chosen}
use Rattle.planner.proofs.Doing.CloseStep.{stamps_counted, close_lowered}
use Rattle.planner.proofs.Doing.CheckpointStep.{checkpoint_lowers, retire_lowers}
use Rattle.planner.proofs.Doing.Choosing.{choose}
use Rattle.planner.proofs.Doing.PlanLaws.{up_plan}

-- ---- what comes of each command that empties
module _ {l : Ledger} {w : World} (u : RelatedUp l w) where
  lowers : (k : Command) → is_emptying k ≡ true → (step k w).answer ≡ 0 → LoweredTo l (step k w)
  unfolding refusals_of
  lowers (FORMAT c b j) e h = impossible e
  lowers (WRITE task c b i v) e h = impossible e
  lowers (CLOSE c) e h = close_lowered u c (may_close u c (unrefused u (CLOSE c) h)) h
  lowers (STORE c) e h = (store_chosen u c (may_store u c (unrefused u (STORE c) h)) h).to
  lowers (CHECKPOINT c) e h = let x = may_checkpoint u c (unrefused u (CHECKPOINT c) h) in checkpoint_lowers u c x.0 x.1 h
  lowers CUT e h = impossible e
  lowers RECOVER e h = impossible e
  lowers (RETIRE c) e h = let x = may_retire u c (unrefused u (RETIRE c) h) in retire_lowers u c x.0 x.1 h

-- refused, it changes nothing
unchanged : (k : Command) (w : World) → (step k w).answer ≢ 0 → (step k w).world ≡ w
unchanged k w h = ap (λ (o : Outcome World). o.world) (step_refused in_sequence k w (omega arith)).2

-- ---- the figure is 0 exactly where all is empty
empty_figure : (w : World) → IsUp w → is_emptied w ≡ true → figure w ≡ 0
unfolding is_empty total
empty_figure w g e = go (unretired_now w) (sym (emptied_up g.related.up) ∙ e)
  where
    go : (us : List Unretired) → is_empty us ≡ true → total commands_left us ≡ 0
    go [] h = refl
    go (x ∷ us) h = absurd (false≢true h)

list_left : {l : Ledger} → WellFormed l → Each (λ (v : Unretired). 1 ≤ commands_left v) (ledger_list l)
unfolding commands_left
list_left {l} f = mem_each (λ (v : Unretired). 1 ≤ commands_left v) (ledger_list l) (λ v m. omega (arith, (member f m).work))

figure_empty : (w : World) → IsUp w → figure w ≡ 0 → is_emptied w ≡ true
unfolding is_empty
figure_empty w g e =
    let up = g.related.up in
    let z : total commands_left (ledger_list g.ledger) ≡ 0 = sym (ap (total commands_left) (list_up up)) ∙ e in
    emptied_up up ∙ ap is_empty (list_up up ∙ none_left_empty (ledger_list g.ledger) (list_left up.well_formed) z)

-- ---- no shorter run
-- one command more: done, it lowers the figure by one; refused, by nothing
one_shorter : (k : Command) (w : World) (n : ℕ) → IsUp w → is_emptying k ≡ true → (IsUp (step k w).world → figure (step k w).world ≤ n) → figure w ≤ suc n
one_shorter k w n g e rest =
    elim (ℕ_discrete (step k w).answer 0) [
      | yes h ↦ (let t = lowers g.related k e h in
          omega (arith, figure_lowered g.related t, rest (record { ledger = t.next; related = t.related })))
      | no h ↦ (let s = unchanged k w h in omega (arith, ap figure s, rest (subst IsUp (sym s) g)))
    ]

no_shorter : (ks : List Command) (w : World) → IsUp w → all is_emptying ks ≡ true → is_emptied (world_by ks w) ≡ true → figure w ≤ length ks
unfolding world_by all
no_shorter [] w g a e = omega (arith, empty_figure w g e)
no_shorter (k ∷ ks) w g a e =
    one_shorter k w (length ks) g (and_left (is_emptying k) (all is_emptying ks) a)
    (λ h. no_shorter ks (step k w).world h (and_right (is_emptying k) (all is_emptying ks) a) e)

-- ---- met by doing it
module _ {l : Ledger} {w : World} (u : RelatedUp l w) where
  abbrev good : IsUp w
  good = record { ledger = l; related = u }

  figure_bound : figure w ≤ 384
  figure_bound =
      let e : figure w ≡ total commands_left (ledger_list l) = ap (total commands_left) (list_up u.up) in
      omega (arith, e, bound (ledger_list l), total_blocks u.up)

  run_up : RunIs IsUp w (emptying_run w)
  unfolding emptying_run
  run_up = run_is IsUp choose enough w good (omega (arith, figure_bound))

  stamped_order : order_from l.closes (ledger_list l) ≡ map with_stamp (retired_done (emptying_run w))
  stamped_order = sym (ordered_up u) ∙ run_up.order

  -- the stamps of those retired ascend
  stamps_ascend : Pairs ◌<◌ (map (λ (e : Committed). e.stamp) (retired_done (emptying_run w)))
  stamps_ascend =
      subst (Pairs ◌<◌)
      (ap (map (λ (s : Stamped). s.stamp)) stamped_order ∙ map-map (λ (s : Stamped). s.stamp) with_stamp (retired_done (emptying_run w)))
      (order_ascends l.closes (ledger_list l) (distinct_stamps u.up.well_formed) (stamps_counted u.up.well_formed))

  names_retired : map (λ (v : Unretired). v.name) (in_order (unretired_now w)) ≡ map name_of (retired_done (emptying_run w))
  names_retired =
      sym (order_names w.card.closes (unretired_now w))
      ∙ ap (map (λ (s : Stamped). s.name)) run_up.order
      ∙ map-map (λ (s : Stamped). s.name) with_stamp (retired_done (emptying_run w))

  done_met : MetByDoing (plan_for (unretired_now w)) w
  unfolding plan_for total
  done_met =
      record {
        done = run_up.done;
        ends = omega (arith, run_up.commands, figure_bound);
        no_more = run_up.no_more;
        emptied = figure_empty _ run_up.good (ap (total commands_left) run_up.empty);
        commands = run_up.commands;
        stores = run_up.stores;
        order = names_retired;
        stamps = stamps_ascend;
      }

-- ---- all of it
plan_of : {w : World} → IsUp w → plan w ≡ plan_for (unretired_now w)
plan_of {w} g = let up = g.related.up in up_plan w (lengths_right w up.disk.size up.memory) up.phase

figure_of : {w : World} → IsUp w → (plan w).commands ≡ figure w
unfolding plan_for
figure_of g = ap (λ (p : Planned). p.commands) (plan_of g)

module _ {l : Ledger} {w : World} (u : RelatedUp l w) where
  plan_lowered : (k : Command) → is_emptying k ≡ true → (step k w).answer ≡ 0 → suc (plan (step k w).world).commands ≡ (plan w).commands
  plan_lowered k e h =
      let t = lowers u k e h in
      ap suc (figure_of (record { ledger = t.next; related = t.related })) ∙ sym (figure_lowered u t) ∙ sym (figure_of (good u))

  pub plan_up : PlanUp plan w
  unfolding plan_for
  plan_up =
      let g = good u in
      let f = figure_of g in
      record {
        met = subst (λ (p : Planned). MetByDoing p w) (sym (plan_of g)) (done_met u);
        least = λ ks a e. omega (arith, f, no_shorter ks w g a e);
        lowered = plan_lowered;
        unlowered = λ k e h. ap (λ (v : World). (plan v).commands) (unchanged k w h);
        zero_emptied = λ h. figure_empty w g (sym f ∙ h);
        emptied_zero = λ h. f ∙ empty_figure w g h;
        bound_met = λ h. f ∙ bound_running (unretired_now w) (sym (running_up u.up) ∙ h);
        summed = (run_up u).most;
      }
