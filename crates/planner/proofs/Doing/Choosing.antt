-- The choice on a card that is up: nothing is left, or the command chosen is carried out, lowers the figure and keeps the order.
use Prim.Native.Nat.{ℕ, zero, suc, ◌-◌, ◌<◌, ◌≤◌}
use native.Mathlib.Omega.{arith}
use mathlib.Core.Path.{◌≡◌, refl, sym, ap, ap₂, ◌∙◌, subst}
use mathlib.Core.List.Memᴰ
use mathlib.Core.List.{List, [], ◌∷◌, ◌++◌, flat_map, Memᴰ}
use mathlib.Core.Option.{none, some}
use mathlib.Core.Bool.{Bool, true, false, cond}
use Rattle.model.specs.Checkpoint.{images_left}
use Rattle.crash.proofs.Commands.CardCheckpoint.{images_left_lem}
use borrow.Author.Tests.{ltb-true, ltb-false}
use Rattle.model.specs.Lists.{Each, below, select, sort_by}
use Rattle.model.specs.Command.{World}
use Rattle.model.specs.Step.{step}
use Rattle.model.specs.Tape.{STORE, CLOSE, CHECKPOINT, RETIRE}
use Rattle.model.specs.declared.Committed.{Committed}
use Rattle.model.proofs.Base.{dec_lt}
use Rattle.model.proofs.Each.{each_mem}
use Rattle.model.proofs.Lists.{cases, mem_each, flat_map_append}
use Rattle.model.proofs.Sorting.{sort_first, sort_none}
use Rattle.crash.specs.Book.{has_running}
use Rattle.crash.specs.Ledger.{Ledger, refusals_of, home_left}
use Rattle.crash.proofs.Books.BookEntries.{oldest_name}
use Rattle.crash.proofs.Commands.CardRules.{live_runs}
use Rattle.crash.proofs.Commands.CardAnswers.{closing_live}
use Rattle.crash.proofs.Disk.LedgerStages.{running_is}
use Rattle.crash.proofs.Runs.UpSteps.{RelatedUp}
use Rattle.crash.proofs.Runs.Unrefused.{MayClose, MayStore, may_checkpoint, may_retire}
use Rattle.crash.proofs.Runs.LowestCheckpoint.{Quiescent, lowest_unrefused, lowest_retires, none_lower}
use Rattle.planner.specs.Plan.{Unretired, runs}
use Rattle.planner.specs.Emptying.{cores_of, closed_on, runs_on, oldest_ones, oldest_next, choices, first_choice, next_command}
use Rattle.planner.proofs.Transactions.LedgerList.{entries_from, closed_of, running_of, core_list, ledger_list, list_up}
use Rattle.planner.proofs.Transactions.ListMembers.{member, entry_closed, its_stamp}
use Rattle.planner.proofs.Transactions.ListStamps.{distinct_stamps}
use Rattle.planner.proofs.Transactions.ListFacts.{cores_up}
use Rattle.planner.proofs.Doing.RunLaws.{Choice, nothing_left, next_done}
use Rattle.planner.proofs.Doing.Answered.{answer_is, close_answered, store_answered}
use Rattle.planner.proofs.Doing.FirstCore.{none_meets, first_meets}
use Rattle.planner.proofs.Doing.OldestOnes.{OldestOf, in_oldest, oldest_in}
use Rattle.planner.proofs.Doing.Lowering.{IsUp, chosen_done}
use Rattle.planner.proofs.Doing.StoreStep.{store_chosen}
use Rattle.planner.proofs.Doing.CloseStep.{close_chosen}
use Rattle.planner.proofs.Doing.CheckpointStep.{checkpoint_chosen, retire_chosen}

abbrev stamp_of : Committed → ℕ
stamp_of e = e.stamp

-- ---- the first of the choices
module _ (w : World) where
  next_store : {c : ℕ} {cs : List ℕ} → select (closed_on w) (cores_of w) ≡ c ∷ cs → next_command w ≡ some (STORE c)
  unfolding next_command choices first_choice
  next_store e = rw e refl

  module _ (none_closed : select (closed_on w) (cores_of w) ≡ []) where
    next_close : {c : ℕ} {cs : List ℕ} → select (runs_on w) (cores_of w) ≡ c ∷ cs → next_command w ≡ some (CLOSE c)
    unfolding next_command choices first_choice
    next_close e = rw (none_closed, e) refl

    module _ (none_run : select (runs_on w) (cores_of w) ≡ []) where
      next_oldest : {e : Committed} {es : List Committed} → sort_by stamp_of (oldest_ones w) ≡ e ∷ es → next_command w ≡ some (oldest_next w e.core)
      unfolding next_command choices first_choice
      next_oldest h = rw (none_closed, none_run, h) refl

      next_none : sort_by stamp_of (oldest_ones w) ≡ [] → next_command w ≡ none
      unfolding next_command choices first_choice
      next_none h = rw (none_closed, none_run, h) refl

-- ---- what is listed
-- where no core has one, none is listed
flat_none : {A : Type 0} (f : ℕ → List A) (n : ℕ) → ((c : ℕ) → c < n → f c ≡ []) → flat_map f (below n) ≡ []
unfolding flat_map below
flat_none f zero h = refl
flat_none f (suc n) h = flat_map_append f (below n) (n ∷ []) ∙ ap₂ (λ (x y : List _). x ++ (y ++ [])) (flat_none f n (λ c q. h c (omega arith))) (h n (omega arith))

quiescent_empty : {l : Ledger} → Quiescent l → ((c : ℕ) → c < l.shape.cores → l.book.oldest c ≡ l.book.next c) → ledger_list l ≡ []
unfolding ledger_list core_list closed_of running_of entries_from
quiescent_empty {l} q old =
    flat_none (core_list l) l.shape.cores
    (λ c h. let e : l.book.next c - l.book.oldest c ≡ 0 = omega (arith, old c h) in rw (e, q.none_running c h) refl)

module _ {l : Ledger} {w : World} (u : RelatedUp l w) where
  in_cores : (p : ℕ → Bool) (cs : List ℕ) → select p (cores_of w) ≡ cs → select p (below l.shape.cores) ≡ cs
  in_cores p cs e = ap (select p) (sym (cores_up u.up)) ∙ e

  -- ---- a STORE
  choose_store : (c : ℕ) (cs : List ℕ) → select (closed_on w) (cores_of w) ≡ c ∷ cs → Choice IsUp w
  choose_store c cs e =
      let f = first_meets (closed_on w) l.shape.cores c cs (in_cores (closed_on w) (c ∷ cs) e) in
      let m : MayStore l c = record { in_range_lem = f.in_range_lem; some_closed = ltb-true _ _ (sym (closing_live u.up c f.in_range_lem) ∙ f.meets) } in
      let h = store_answered u c m in
      next_done (STORE c) (next_store w e) (chosen_done u (STORE c) h (store_chosen u c m h))

  module _ (no_closed : select (closed_on w) (cores_of w) ≡ []) where
    all_committed : (c : ℕ) → c < l.shape.cores → l.book.uncommitted c ≡ l.book.next c
    all_committed c h =
        let z = sym (closing_live u.up c h) ∙ none_meets (closed_on w) l.shape.cores (in_cores (closed_on w) [] no_closed) c h in
        omega (arith, ltb-false (l.book.uncommitted c) (l.book.next c) z, (u.up.well_formed.ranks c h).mid)

    -- ---- a CLOSE
    choose_close : (c : ℕ) (cs : List ℕ) → select (runs_on w) (cores_of w) ≡ c ∷ cs → Choice IsUp w
    choose_close c cs e =
        let f = first_meets (runs_on w) l.shape.cores c cs (in_cores (runs_on w) (c ∷ cs) e) in
        let m : MayClose l c =
        record {
          in_range_lem = f.in_range_lem;
          runs = running_is _ (sym (live_runs u.up c f.in_range_lem) ∙ f.meets);
          none_closed = all_committed c f.in_range_lem;
        } in
        let h = close_answered u c m in
        let first : (i : ℕ) → i < c → has_running l.book i ≡ false = λ i q. sym (live_runs u.up i (omega (arith, f.in_range_lem))) ∙ f.lower i q in
        next_done (CLOSE c) (next_close w no_closed e) (chosen_done u (CLOSE c) h (close_chosen u c m first h))

    module _ (no_running : select (runs_on w) (cores_of w) ≡ []) where
      is_quiescent : Quiescent l
      is_quiescent =
          record {
            none_running = λ c h. sym (live_runs u.up c h) ∙ none_meets (runs_on w) l.shape.cores (in_cores (runs_on w) [] no_running) c h;
            none_closed = all_committed;
          }

      -- ---- a CHECKPOINT or a RETIRE
      module _ (c : ℕ) (e : Committed) (o : OldestOf u.up e c) (low : Each (λ (f : Committed). e.stamp ≤ f.stamp) (oldest_ones w)) where
        lowest : (i : ℕ) → i < l.shape.cores → l.book.oldest i < l.book.uncommitted i → l.stamp (oldest_name c l.book) ≤ l.stamp (oldest_name i l.book)
        lowest i h g =
            let r = oldest_in u.up i h g in
            omega (arith, each_mem (λ (f : Committed). e.stamp ≤ f.stamp) low r.1, o.stamp, r.2.stamp)

        no_lower : Each (λ (v : Unretired). runs v ≡ false → l.stamp (oldest_name c l.book) ≤ v.stamp) (ledger_list l)
        no_lower =
            mem_each (λ (v : Unretired). runs v ≡ false → l.stamp (oldest_name c l.book) ≤ v.stamp) (ledger_list l)
            (λ v m h.
            let f = u.up.well_formed in
            let x = member f m in
            let s = entry_closed f x h in
            omega (arith, its_stamp f x h, none_lower f is_quiescent c lowest v.name s.0 s.1))

        same_left : images_left c w ≡ home_left c l.book
        same_left = images_left_lem u.up c o.in_range_lem o.some_committed

        choose_home : home_left c l.book ≡ true → next_command w ≡ some (oldest_next w c) → Choice IsUp w
        unfolding refusals_of
        choose_home left n =
            let z = lowest_unrefused u is_quiescent c o.in_range_lem o.some_committed lowest left in
            let answered : (step (CHECKPOINT c) w).answer ≡ 0 = answer_is u (CHECKPOINT c) ∙ z in
            let m = may_checkpoint u c z in
            let e : oldest_next w c ≡ CHECKPOINT c = ap (λ (b : Bool). cond b (CHECKPOINT c) (RETIRE c)) (same_left ∙ left) in
            next_done (CHECKPOINT c) (n ∙ ap some e) (chosen_done u (CHECKPOINT c) answered (checkpoint_chosen u c m.0 m.1 answered))

        choose_retire : home_left c l.book ≡ false → next_command w ≡ some (oldest_next w c) → Choice IsUp w
        unfolding refusals_of
        choose_retire left n =
            let z = lowest_retires u is_quiescent c o.in_range_lem o.some_committed lowest left in
            let answered : (step (RETIRE c) w).answer ≡ 0 = answer_is u (RETIRE c) ∙ z in
            let m = may_retire u c z in
            let e : oldest_next w c ≡ RETIRE c = ap (λ (b : Bool). cond b (CHECKPOINT c) (RETIRE c)) (same_left ∙ left) in
            next_done (RETIRE c) (n ∙ ap some e) (chosen_done u (RETIRE c) answered (retire_chosen u c m.0 m.1 no_lower (distinct_stamps u.up.well_formed) answered))

        choose_oldest : next_command w ≡ some (oldest_next w c) → Choice IsUp w
        choose_oldest n = cases (home_left c l.book) (λ h. choose_home h n) (λ h. choose_retire h n)

      choose_lowest : (e : Committed) (es : List Committed) → sort_by stamp_of (oldest_ones w) ≡ e ∷ es → Choice IsUp w
      choose_lowest e es h =
          let s = sort_first stamp_of (oldest_ones w) h in
          let r = in_oldest u.up e s.0 in
          choose_oldest r.0 e r.1 s.1 (subst (λ (c : ℕ). next_command w ≡ some (oldest_next w c)) r.1.core (next_oldest w no_closed no_running h))

      -- ---- nothing
      choose_nothing : sort_by stamp_of (oldest_ones w) ≡ [] → Choice IsUp w
      choose_nothing h =
          let none_old : (c : ℕ) → c < l.shape.cores → l.book.oldest c ≡ l.book.next c =
          λ c q. elim (dec_lt (l.book.oldest c) (l.book.uncommitted c)) [
            | yes g ↦ absurd (Memᴰ.not-nil (subst (Memᴰ (oldest_in u.up c q g).0) (sort_none stamp_of (oldest_ones w) h) (oldest_in u.up c q g).1))
            | no g ↦ omega (arith, (u.up.well_formed.ranks c q).low, all_committed c q)
          ] in
          nothing_left (next_none w no_closed no_running h) (list_up u.up ∙ quiescent_empty is_quiescent none_old)

  choose_up : Choice IsUp w
  choose_up = by_closed (select (closed_on w) (cores_of w)) refl
    where
      by_oldest : (no_closed : select (closed_on w) (cores_of w) ≡ []) (no_running : select (runs_on w) (cores_of w) ≡ []) (es : List Committed)
          → sort_by stamp_of (oldest_ones w) ≡ es → Choice IsUp w
      by_oldest a b [] e = choose_nothing a b e
      by_oldest a b (x ∷ es) e = choose_lowest a b x es e

      by_running : (no_closed : select (closed_on w) (cores_of w) ≡ []) (cs : List ℕ) → select (runs_on w) (cores_of w) ≡ cs → Choice IsUp w
      by_running a [] e = by_oldest a e (sort_by stamp_of (oldest_ones w)) refl
      by_running a (c ∷ cs) e = choose_close a c cs e

      by_closed : (cs : List ℕ) → select (closed_on w) (cores_of w) ≡ cs → Choice IsUp w
      by_closed [] e = by_running e (select (runs_on w) (cores_of w)) refl
      by_closed (c ∷ cs) e = choose_store c cs e

pub choose : (w : World) → IsUp w → Choice IsUp w
choose w h = choose_up h.related
