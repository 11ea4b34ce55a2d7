-- What was counted of the works of all unretired transactions is their plan.
use Rattle.model.proofs.Base.{ℕ, zero, suc, ◌+◌, ◌-◌, arith, ◌≡◌, refl, sym, ap, ap₂, subst, ◌∙◌, cond, not}
use Rattle.model.proofs.Base.{List, [], ◌∷◌, ◌++◌, map, map-append, append_assoc, length, replicate, length-map, length-append, select, Bytes}
use mathlib.Core.List.{map-map}
use Rattle.model.specs.Lists.{total, sort_by}
use Rattle.model.specs.Card.{shape_of}
use Rattle.model.specs.Command.{World, refusal, not_up}
use Rattle.model.specs.declared.Name.{Name}
use Rattle.model.specs.declared.Card.{Card}
use Rattle.model.proofs.Select.{select_map}
use Rattle.model.proofs.Sorting.{sort_map}
use Rattle.model.proofs.Totals.{total_map}
use Rattle.cells.specs.Cells.{name_cell, world}
use Rattle.cells.proofs.RefusalLaws.{up_numbers, passed_lengths}
use Rattle.oldest.specs.Oldest.{ReadNow}
use Rattle.crash.specs.Book.{Stage, absent, running, closed, committed, retired, is_running}
use Rattle.std.specs.Prelude.{Bool, Some}
use Rattle.model.proofs.Lists.{cases}
use Rattle.planner.specs.declared.Work.{Work}
use Rattle.planner.specs.declared.Found.{Found}
use Rattle.planner.specs.declared.PlannedWork.{PlannedWork}
use Rattle.std.specs.Prelude.{Result, Ok, Err}
use Rattle.model.specs.Refusal.{number_of}
use Rattle.model.specs.declared.Refusal.{Refusal}
use Rattle.model.proofs.RefusalNumbers.{number_not_0}
use Rattle.planner.specs.Plan.{Unretired, unretired_now, closes_for, closes_left, stores_left, commands_left, runs, in_order, plan_for, no_plan, plan}
use Rattle.planner.specs.Result.{PlanAnswer, answered, places, order_in, plan_of}
use Rattle.planner.specs.Works.{work_of, works_to}
use Rattle.planner.specs.Insertion.{still_runs, work_stamp, work_name, work_stores, work_commands, by_stamp, running_ones, Tallied}
use Rattle.planner.proofs.CodeLaws.UnretiredLaws.{works_unretired}
use Rattle.planner.proofs.Doing.PlanLaws.{plan_refused, plan_is}
use Rattle.journal.specs.declared.extents.Extent.{Extent}

-- ---- works of unretired transactions
-- one that does not run has its stamp
stamped_work : Unretired → Work
stamped_work u = record { name = name_cell u.name; stamp = Some u.stamp; stores = stores_left u }

run_alike : (u : Unretired) → still_runs (work_of u) ≡ runs u
unfolding work_of
run_alike u = cases (runs u) (λ e. rw e) (λ e. rw e)

stamped_alike : (us : List Unretired) → map work_of (select (λ (u : Unretired). not (runs u)) us) ≡ map stamped_work (select (λ (u : Unretired). not (runs u)) us)
unfolding select work_of stamped_work
stamped_alike [] = refl
stamped_alike (u ∷ us) =
    cases (runs u)
    (λ e. rw e (stamped_alike us))
    (λ e. rw (e, e) (ap (λ (ks : List Work). stamped_work u ∷ ks) (stamped_alike us)))

names_works : (vs : List Unretired) → map work_name (map work_of vs) ≡ map name_cell (map (λ (u : Unretired). u.name) vs)
unfolding work_of
names_works vs = map-map work_name work_of vs ∙ sym (map-map name_cell (λ (u : Unretired). u.name) vs)

names_stamped : (vs : List Unretired) → map work_name (map stamped_work vs) ≡ map name_cell (map (λ (u : Unretired). u.name) vs)
unfolding stamped_work
names_stamped vs = map-map work_name stamped_work vs ∙ sym (map-map name_cell (λ (u : Unretired). u.name) vs)

module _ (us : List Unretired) where
  stamped_ones : List Unretired
  stamped_ones = sort_by (λ (u : Unretired). u.stamp) (select (λ (u : Unretired). not (runs u)) us)

  by_stamp_works : by_stamp (map work_of us) ≡ map stamped_work stamped_ones
  unfolding by_stamp stamped_work stamped_ones
  by_stamp_works =
      ap (sort_by work_stamp) (select_map work_of (λ (u : Unretired). not (runs u)) (λ (k : Work). not (still_runs k)) (λ u. ap not (run_alike u)) us ∙ stamped_alike us)
      ∙ sort_map stamped_work work_stamp (select (λ (u : Unretired). not (runs u)) us)

  running_works : running_ones (map work_of us) ≡ map work_of (select runs us)
  unfolding running_ones
  running_works = select_map work_of runs still_runs run_alike us

  stores_works : total work_stores (map work_of us) ≡ total stores_left us
  unfolding work_of
  stores_works = total_map work_of stores_left work_stores (λ u. refl) us

  commands_works : total work_commands (map work_of us) ≡ total commands_left us
  unfolding work_of work_commands commands_left closes_left runs
  commands_works =
      total_map work_of commands_left work_commands
      (λ u. ap (λ (b : Bool). cond b 1 0 + stores_left u) (run_alike u) ∙ ap (λ (n : ℕ). n + stores_left u) (closes_runs u.stage)) us
    where
      closes_runs : (g : Stage) → cond (is_running g) 1 0 ≡ closes_for g
      closes_runs g = unfold closes_for in elim g as (λ (k : Stage). cond (is_running k) 1 0 ≡ closes_for k) [ absent ↦ refl | running ↦ refl | closed k ↦ refl | committed h ↦ refl | retired ↦ refl ]

  order_names : List Name
  order_names = map (λ (u : Unretired). u.name) (in_order us)

  names_ordered : map work_name (by_stamp (map work_of us)) ++ map work_name (running_ones (map work_of us)) ≡ map name_cell order_names
  unfolding order_names in_order stamped_ones
  names_ordered =
      ap₂ (λ (xs ys : List ℕ). xs ++ ys)
      (ap (map work_name) by_stamp_works ∙ names_stamped stamped_ones)
      (ap (map work_name) running_works ∙ names_works (select runs us))
      ∙ sym (map-append name_cell (map (λ (u : Unretired). u.name) stamped_ones) (map (λ (u : Unretired). u.name) (select runs us)))
      ∙ ap (map name_cell) (sym (map-append (λ (u : Unretired). u.name) stamped_ones (select runs us)))

  module _ (t : Found) (u : Tallied 112 (map work_of us) t) where
    count_ordered : t.count ≡ length order_names
    count_ordered =
        let a : length (map work_name (by_stamp (map work_of us)) ++ map work_name (running_ones (map work_of us))) ≡ length order_names =
        ap length names_ordered ∙ length-map order_names name_cell in
        omega (
          arith,
          u.count,
          u.stamped,
          length-append (map work_name (by_stamp (map work_of us))) (map work_name (running_ones (map work_of us))),
          length-map (by_stamp (map work_of us)) work_name,
          length-map (running_ones (map work_of us)) work_name,
        )

    order_ordered : t.names ≡ order_in order_names
    unfolding order_in
    order_ordered =
        u.names ∙ sym (append_assoc (map work_name (by_stamp (map work_of us))) (map work_name (running_ones (map work_of us))) (replicate (places - t.count) 0))
        ∙ ap₂ (λ (xs : List ℕ) (n : ℕ). xs ++ replicate (places - n) 0) names_ordered count_ordered

    answer_for : ◌≡◌ {A = PlanAnswer} (record { number = 0; commands = t.commands; stores = t.stores; count = t.count; order = t.names }) (plan_of (plan_for us))
    unfolding plan_of plan_for order_names
    answer_for = rw (u.commands ∙ commands_works, u.stores ∙ stores_works, count_ordered, order_ordered) refl

-- ---- the answers
pub answer_up : (x : Card) (d : Bytes) (xs : List Extent) (start count : List ℕ) → ReadNow x d xs start count
    → (t : Found) → Tallied 112 (works_to x xs start count (shape_of x).cores) t → (m : Bytes)
    → ◌≡◌ {A = PlanAnswer} (record { number = 0; commands = t.commands; stores = t.stores; count = t.count; order = t.names }) (plan_of (plan_for (unretired_now (world x d m))))
answer_up x d xs start count r t u m =
    answer_for (unretired_now (world x d m)) t
    (subst (λ (ks : List Work). Tallied 112 ks t) (works_unretired x d xs start count r m) u)

refused_as : (w : World) (n : ℕ) → refusal (not_up w []) ≡ n → (n ≡ 0 → ⊥) → plan w ≡ no_plan n
refused_as w zero q h = absurd (h refl)
refused_as w (suc n) q h = plan_refused w n q

module _ (x : Card) (d m : Bytes) where
  pub answer_refused : (e : Refusal) → number_of e ≡ refusal (not_up (world x d m) []) → (r : Result PlannedWork Refusal) → r ≡ Err e
      → answered r ≡ plan_of (plan (world x d m))
  unfolding plan_of order_in
  answer_refused e q r h = ap answered h ∙ sym (ap plan_of (refused_as (world x d m) (number_of e) (sym q) (number_not_0 e)))

  module _ (e : 0 ≡ refusal (not_up (world x d m) [])) where
    pub plan_long : length d ≡ 32896
    plan_long = passed_lengths (world x d m) 20 0 22 (e ∙ sym (up_numbers (world x d m)))

    pub answer_planned : (p : PlannedWork) → ((m : Bytes) → answered (Ok p) ≡ plan_of (plan_for (unretired_now (world x d m)))) → answered (Ok p) ≡ plan_of (plan (world x d m))
    answer_planned p q = q m ∙ ap plan_of (sym (plan_is (world x d m) (sym e)))
