-- CLOSE of a card that is up: it lowers the figure by one; where no lower core runs one, the order stays.
use Prim.Native.Nat.{ℕ, ◌<◌, ◌≤◌}
use native.Mathlib.Omega.{arith}
use mathlib.Core.Path.{◌≡◌, refl, sym}
use mathlib.Core.Bool.{false}
use Rattle.model.specs.Lists.{Each, total}
use Rattle.model.specs.Command.{World}
use Rattle.model.specs.Commit.{closed}
use Rattle.model.specs.Step.{done_by, step}
use Rattle.model.specs.Tape.{CLOSE}
use Rattle.model.proofs.Lists.{mem_each}
use Rattle.crash.specs.Book.{has_running}
use Rattle.crash.specs.Ledger.{Ledger, close_ledger}
use Rattle.crash.proofs.Disk.Relation.{WellFormed}
use Rattle.crash.proofs.Runs.UpSteps.{RelatedUp, close_at}
use Rattle.crash.proofs.Runs.Unrefused.{MayClose}
use Rattle.planner.specs.Plan.{Unretired, runs}
use Rattle.planner.specs.Emptying.{retired_by}
use Rattle.planner.proofs.Transactions.Orders.{order_closes, most_stays}
use Rattle.planner.proofs.Transactions.LedgerList.{ledger_list}
use Rattle.planner.proofs.Transactions.ListMembers.{member, stamp_counted}
use Rattle.planner.proofs.Transactions.ListClose.{closed_lowered, close_list}
use Rattle.planner.proofs.Doing.Answered.{when_done}
use Rattle.planner.proofs.Doing.Lowering.{LoweredTo, ChosenTo}

-- no stamp is above the closes counted
pub stamps_counted : {l : Ledger} → WellFormed l → Each (λ (u : Unretired). runs u ≡ false → u.stamp ≤ l.closes) (ledger_list l)
stamps_counted {l} f = mem_each (λ (u : Unretired). runs u ≡ false → u.stamp ≤ l.closes) (ledger_list l) (λ u m h. stamp_counted f (member f m) h)

module _ {l : Ledger} {w : World} (u : RelatedUp l w) (c : ℕ) (m : MayClose l c) where
  close_to : LoweredTo l (closed c w)
  unfolding closed
  close_to =
      record {
        next = close_ledger c l;
        related = close_at u c m.in_range_lem m.runs m.none_closed;
        lowered = closed_lowered (close_list u.up.well_formed c m.in_range_lem m.runs);
      }

  pub close_lowered : (step (CLOSE c) w).answer ≡ 0 → LoweredTo l (step (CLOSE c) w)
  unfolding done_by
  close_lowered h = when_done (LoweredTo l) (CLOSE c) w h close_to

  module _ (first : (i : ℕ) → i < c → has_running l.book i ≡ false) where
    close_first : ChosenTo l (CLOSE c) w (closed c w)
    unfolding close_ledger retired_by close_to total
    close_first =
        let f = u.up.well_formed in
        let s = close_list f c m.in_range_lem m.runs in
        record {
          to = close_to;
          order = order_closes l.closes s.replaced s.running_before s.closed_after (sym s.name) refl (stamps_counted f) (s.first first);
          most = omega (arith, most_stays s.replaced s.count);
        }

    pub close_chosen : (step (CLOSE c) w).answer ≡ 0 → ChosenTo l (CLOSE c) w (step (CLOSE c) w)
    unfolding done_by
    close_chosen h = when_done (ChosenTo l (CLOSE c) w) (CLOSE c) w h close_first
