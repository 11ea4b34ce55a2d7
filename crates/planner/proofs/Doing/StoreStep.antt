-- STORE of a card that is up: it lowers the figure by one, and the order stays.
use Prim.Native.Nat.{ℕ}
use native.Mathlib.Omega.{arith}
use mathlib.Core.Path.{◌≡◌}
use Rattle.model.specs.Lists.{total}
use Rattle.model.specs.Command.{World}
use Rattle.model.specs.Commit.{stored}
use Rattle.model.specs.Step.{done_by, step}
use Rattle.model.specs.Tape.{STORE}
use Rattle.crash.specs.Book.{store_book}
use Rattle.crash.specs.Ledger.{Ledger, with_book}
use Rattle.crash.proofs.Runs.UpSteps.{RelatedUp, store_at}
use Rattle.crash.proofs.Runs.Unrefused.{MayStore}
use Rattle.planner.specs.Emptying.{retired_by}
use Rattle.planner.proofs.Transactions.Orders.{order_stays, most_stays}
use Rattle.planner.proofs.Transactions.ListSteps.{advanced_lowered, store_list}
use Rattle.planner.proofs.Doing.Answered.{when_done}
use Rattle.planner.proofs.Doing.Lowering.{ChosenTo}

module _ {l : Ledger} {w : World} (u : RelatedUp l w) (c : ℕ) (m : MayStore l c) where
  store_to : ChosenTo l (STORE c) w (stored c w)
  unfolding stored retired_by total
  store_to =
      let s = store_list u.up.well_formed c m.in_range_lem m.some_closed in
      let a = s.1 in
      record {
        to = record { next = with_book l (store_book c l.book); related = store_at u c m.in_range_lem m.some_closed; lowered = advanced_lowered a };
        order = order_stays l.closes a.replaced a.closed_before a.closed_after a.name a.stamp;
        most = omega (arith, most_stays a.replaced a.count);
      }

  pub store_chosen : (step (STORE c) w).answer ≡ 0 → ChosenTo l (STORE c) w (step (STORE c) w)
  unfolding done_by
  store_chosen h = when_done (ChosenTo l (STORE c) w) (STORE c) w h store_to
