-- What a command carried out on a card that is up does to the figure, the order and the bound, said of the ledger and so of the card.
use Prim.Native.Nat.{suc, ◌+◌}
use native.Mathlib.Omega.{arith}
use mathlib.Core.Path.{◌≡◌, sym, ap, ap₂, ◌∙◌}
use mathlib.Core.List.{List, ◌++◌, map}
use Rattle.model.specs.Lists.{total}
use Rattle.model.specs.Command.{World, Outcome}
use Rattle.model.specs.Step.{step}
use Rattle.model.specs.Tape.{Command}
use Rattle.crash.specs.Ledger.{Ledger}
use Rattle.crash.proofs.Runs.UpSteps.{RelatedUp}
use Rattle.planner.specs.Plan.{Unretired, commands_left, stores_left, most_commands}
use Rattle.planner.specs.Emptying.{retired_by}
use Rattle.planner.proofs.Transactions.Replaced.{Stamped, order_from}
use Rattle.planner.proofs.Transactions.Orders.{total_replaced}
use Rattle.planner.proofs.Transactions.LedgerList.{ledger_list, list_up}
use Rattle.planner.proofs.Transactions.ListSteps.{Lowered}
use Rattle.planner.proofs.Doing.RunLaws.{figure, stores_of, ordered, with_stamp, most_of, ChoiceDone}

-- a card that is up, by some ledger
pub record IsUp (w : World) : Type 0 where
  pub ledger : Ledger
  pub related : RelatedUp ledger w

-- what came of a command carried out: the ledger after it, and the list that it lowers
pub record LoweredTo (l : Ledger) (o : Outcome World) : Type 0 where
  pub next : Ledger
  pub related : RelatedUp next o.world
  pub lowered : Lowered (ledger_list l) (ledger_list next) o.stores

module _ {l : Ledger} {w : World} (u : RelatedUp l w) {o : Outcome World} (s : LoweredTo l o) where
  pub figure_lowered : figure w ≡ suc (figure o.world)
  figure_lowered =
      let e : figure w ≡ total commands_left (ledger_list l) = ap (total commands_left) (list_up u.up) in
      let g : figure o.world ≡ total commands_left (ledger_list s.next) = ap (total commands_left) (list_up s.related.up) in
      omega (arith, e, g, total_replaced commands_left s.lowered.replaced, s.lowered.commands)

  stores_lowered : stores_of w ≡ o.stores + stores_of o.world
  stores_lowered =
      let e : stores_of w ≡ total stores_left (ledger_list l) = ap (total stores_left) (list_up u.up) in
      let g : stores_of o.world ≡ total stores_left (ledger_list s.next) = ap (total stores_left) (list_up s.related.up) in
      omega (arith, e, g, total_replaced stores_left s.lowered.replaced, s.lowered.stores)

pub ordered_up : {l : Ledger} {w : World} → RelatedUp l w → ordered w ≡ order_from l.closes (ledger_list l)
ordered_up u = ap₂ order_from u.up.closes (list_up u.up)

-- what was chosen and carried out, with the order
pub record ChosenTo (l : Ledger) (k : Command) (w : World) (o : Outcome World) : Type 0 where
  pub to : LoweredTo l o
  pub order : order_from l.closes (ledger_list l) ≡ map with_stamp (retired_by k w o.world) ++ order_from to.next.closes (ledger_list to.next)
  pub most : total most_commands (ledger_list l) ≡ total most_of (retired_by k w o.world) + total most_commands (ledger_list to.next)

pub chosen_done : {l : Ledger} {w : World} → RelatedUp l w → (k : Command) → (step k w).answer ≡ 0 → ChosenTo l k w (step k w) → ChoiceDone IsUp w k
chosen_done {l} {w} u k h s =
    record {
      answer = h;
      good = record { ledger = s.to.next; related = s.to.related };
      commands = figure_lowered u s.to;
      stores = stores_lowered u s.to;
      order = ordered_up u ∙ s.order ∙ ap (λ (ss : List Stamped). map with_stamp (retired_by k w (step k w).world) ++ ss) (sym (ordered_up s.to.related));
      most =
          ap (total most_commands) (list_up u.up)
          ∙ s.most
          ∙ ap (λ (us : List Unretired). total most_of (retired_by k w (step k w).world) + total most_commands us) (sym (list_up s.to.related.up));
    }
