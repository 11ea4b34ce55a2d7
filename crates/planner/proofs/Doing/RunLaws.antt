-- The emptying run, where each choice is carried out and lowers the figure by one: it takes as many commands as the figure says, stores as
-- often as its stores say, and retires in the order with stamps; the bound is the sum over those that it retires.
use Prim.Native.Nat.{ℕ, zero, suc, ◌+◌, ◌≤◌}
use native.Mathlib.Omega.{arith}
use mathlib.Core.Path.{◌≡◌, refl, sym, ap, ◌∙◌, subst}
use mathlib.Core.List.{List, [], ◌∷◌, ◌++◌, map, flat_map, map-append}
use mathlib.Core.Option.{none, some}
use mathlib.Core.Bool.{true}
use lib.ListN.{length}
use borrow.Author.Tests.{eq-eqb}
use Rattle.model.specs.Lists.{all, select, sort_by, sort_into, total}
use Rattle.model.specs.Journal.{name_of}
use Rattle.model.specs.Command.{World}
use Rattle.model.specs.Step.{step}
use Rattle.model.specs.Tape.{Command}
use Rattle.model.specs.declared.Committed.{Committed}
use Rattle.model.proofs.Totals.{total_append}
use Rattle.planner.specs.Plan.{unretired_now, commands_left, stores_left, most_for, most_commands}
use Rattle.planner.specs.Emptying.{RunCommand, next_command, doing, world_done, all_done, stores_done, retired_by, retired_done}
use Rattle.planner.proofs.Transactions.Replaced.{Stamped, new_stamped, closed_from, order_from}

abbrev pub figure : World → ℕ
figure w = total commands_left (unretired_now w)

abbrev pub stores_of : World → ℕ
stores_of w = total stores_left (unretired_now w)

abbrev pub ordered : World → List Stamped
ordered w = order_from w.card.closes (unretired_now w)

-- one that was retired, with its stamp
abbrev pub with_stamp : Committed → Stamped
with_stamp e = new_stamped (name_of e) e.stamp

-- the bound
abbrev most_in : World → ℕ
most_in w = total most_commands (unretired_now w)

abbrev pub most_of : Committed → ℕ
most_of e = most_for e.count

abbrev after : Command → World → World
after k w = (step k w).world

doing_ended : (n : ℕ) (w : World) → next_command w ≡ none → doing (suc n) next_command w ≡ []
unfolding doing
doing_ended n w e = rw (e, doing) refl

doing_more : (n : ℕ) (w : World) (k : Command) → next_command w ≡ some k
    → doing (suc n) next_command w ≡ record { command = k; before = w; outcome = step k w } ∷ doing n next_command (after k w)
unfolding doing
doing_more n w k e = rw (e, doing) refl

module _ (Good : World → Type 0) where
  -- a command carried out that lowers the figure
  pub record ChoiceDone (w : World) (k : Command) : Type 0 where
    pub answer : (step k w).answer ≡ 0
    pub good : Good (after k w)
    pub commands : figure w ≡ suc (figure (after k w))
    pub stores : stores_of w ≡ (step k w).stores + stores_of (after k w)
    pub order : ordered w ≡ map with_stamp (retired_by k w (after k w)) ++ ordered (after k w)
    pub most : most_in w ≡ total most_of (retired_by k w (after k w)) + most_in (after k w)

  -- there is nothing to do, or the choice is carried out
  pub data Choice (w : World) : Type 0 where
    nothing_left : next_command w ≡ none → unretired_now w ≡ [] → Choice w
    next_done : (k : Command) → next_command w ≡ some k → ChoiceDone w k → Choice w

  pub record RunIs (w : World) (ts : List RunCommand) : Type 0 where
    pub done : all_done ts ≡ true
    pub commands : figure w ≡ length ts
    pub stores : stores_of w ≡ stores_done ts
    pub order : ordered w ≡ map with_stamp (retired_done ts)
    pub most : most_in w ≡ total most_of (retired_done ts)
    pub good : Good (world_done w ts)
    pub no_more : next_command (world_done w ts) ≡ none
    pub empty : unretired_now (world_done w ts) ≡ []

  ended : (w : World) → Good w → next_command w ≡ none → unretired_now w ≡ [] → RunIs w []
  unfolding world_done all_done stores_done retired_done order_from total flat_map all
  ended w g e z =
      record {
        done = refl;
        commands = ap (total commands_left) z;
        stores = ap (total stores_left) z;
        order = unfold closed_from sort_by sort_into select in ap (order_from w.card.closes) z;
        most = ap (total most_commands) z;
        good = g;
        no_more = e;
        empty = z;
      }

  longer : (w : World) (k : Command) → ChoiceDone w k → (ts : List RunCommand) → RunIs (after k w) ts
      → RunIs w (record { command = k; before = w; outcome = step k w } ∷ ts)
  unfolding world_done all_done stores_done retired_done total flat_map all
  longer w k a ts r =
      record {
        done = rw (eq-eqb (step k w).answer 0 a.answer) r.done;
        commands = a.commands ∙ ap suc r.commands;
        stores = a.stores ∙ ap (λ (n : ℕ). (step k w).stores + n) r.stores;
        order =
            a.order
            ∙ ap (λ (ss : List Stamped). map with_stamp (retired_by k w (after k w)) ++ ss) r.order
            ∙ sym (map-append with_stamp (retired_by k w (after k w)) (retired_done ts));
        most =
            a.most
            ∙ ap (λ (n : ℕ). total most_of (retired_by k w (after k w)) + n) r.most
            ∙ sym (total_append most_of (retired_by k w (after k w)) (retired_done ts));
        good = r.good;
        no_more = r.no_more;
        empty = r.empty;
      }

  module _ (choose : (w : World) → Good w → Choice w) where
    pub run_is : (n : ℕ) (w : World) → Good w → figure w ≤ n → RunIs w (doing n next_command w)
    unfolding doing
    run_is zero w g h =
        elim (choose w g) [
          | nothing_left e z ↦ ended w g e z
          | next_done k e a ↦ absurd (omega (arith, a.commands))
        ]
    run_is (suc n) w g h =
        elim (choose w g) [
          | nothing_left e z ↦ subst (RunIs w) (sym (doing_ended n w e)) (ended w g e z)
          | next_done k e a ↦ subst (RunIs w) (sym (doing_more n w k e))
              (longer w k a (doing n next_command (after k w)) (run_is n (after k w) a.good (omega (arith, a.commands))))
        ]
