-- A plan as the code answers it: each name of the order is one number, 8 * number + core, and zeros stand behind them up to 112 places.
use Rattle.std.specs.Prelude.{ℕ, ◌-◌, List, ◌∷◌, ◌++◌, map, length, replicate, Result, Ok, Err}
use Rattle.model.specs.Refusal.{number_of}
use Rattle.model.specs.declared.Refusal.{Refusal}
use Rattle.model.specs.declared.Name.{Name}
use Rattle.cells.specs.Cells.{name_cell}
use Rattle.planner.specs.Plan.{Planned}
use Rattle.planner.specs.declared.PlannedWork.{PlannedWork}

-- the places of the order: of each of eight cores twelve committed transactions, its closed one and its running one
abbrev pub places : ℕ
places = 112

unfoldable pub order_in : List Name → List ℕ
order_in ns = map name_cell ns ++ replicate (places - length ns) 0

-- what is answered: the number of a refusal, 0 for none, and the plan, nothing of it for a refusal
pub record PlanAnswer : Type 0 where
  pub number : ℕ
  pub commands : ℕ
  pub stores : ℕ
  pub count : ℕ
  pub order : List ℕ

abbrev pub answered : Result PlannedWork Refusal → PlanAnswer
answered (Ok p) = record { number = 0; commands = p.commands; stores = p.stores; count = p.count; order = p.order }
answered (Err e) = record { number = number_of e; commands = 0; stores = 0; count = 0; order = replicate places 0 }

unfoldable pub plan_of : Planned → PlanAnswer
plan_of p = record { number = p.number; commands = p.commands; stores = p.stores; count = length p.order; order = order_in p.order }

-- the same in 116 cells: number, commands, stores, count, then the order
unfoldable pub plan_cells : Planned → List ℕ
plan_cells p = p.number ∷ p.commands ∷ p.stores ∷ length p.order ∷ order_in p.order
