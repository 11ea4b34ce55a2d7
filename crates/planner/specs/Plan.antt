-- Paper 02, (e): 'A new part works out, from card state, disk and memory and without doing anything, how many CLOSE, STORE and CHECKPOINT
-- commands will empty every journal if nobody writes meanwhile, and in which order the checkpoints may go.'
-- (g): 'The figure of (e) counts RETIRE too and its bound holds unchanged.'
use Rattle.std.specs.Prelude.{ℕ, zero, suc, ◌+◌, ◌-◌, ◌*◌, Bool, cond, not, length}
use mathlib.Core.List.{List, [], ◌∷◌, ◌++◌, map, flat_map}
use Rattle.model.specs.Lists.{below, select, total, sort_by}
use Rattle.model.specs.Card.{new_name, taken, shape_of, core_of}
use Rattle.model.specs.Journal.{name_of}
use Rattle.model.specs.Command.{World, refusal, not_up}
use Rattle.model.specs.Commit.{closed_number}
use Rattle.model.specs.Checkpoint.{committed_of}
use Rattle.model.specs.declared.Name.{Name}
use Rattle.model.specs.declared.Core.{Core}
use Rattle.model.specs.declared.Committed.{Committed}
use Rattle.crash.specs.Book.{Stage, absent, running, closed, committed, retired, is_running}

-- ---- those that are not retired
-- its name, its stamp (0 while it runs: CLOSE gives it one), how many blocks it took, and how far it has come
pub record Unretired : Type 0 where
  pub name : Name
  pub stamp : ℕ
  pub count : ℕ
  pub stage : Stage

-- a committed one, with the home stores done
unfoldable pub committed_as : ℕ → Committed → Unretired
committed_as h e = record { name = name_of e; stamp = e.stamp; count = e.count; stage = committed h }

-- a core's committed ones: the home stores done are the oldest's
unfoldable pub committed_ones : ℕ → List Committed → List Unretired
committed_ones h [] = []
committed_ones h (e ∷ es) = committed_as h e ∷ map (committed_as 0) es

unfoldable pub closed_as : ℕ → Core → Unretired
closed_as c k = record { name = new_name c (closed_number k); stamp = k.closed.stamp; count = length (taken k.closed); stage = closed k.stored }

unfoldable pub running_as : ℕ → Core → Unretired
running_as c k = record { name = new_name c k.next; stamp = 0; count = length (taken k.running); stage = running }

-- those of a core in order of number: the committed ones as CHECKPOINT and RETIRE read them, the closed one, the running one
unfoldable pub unretired_of : World → ℕ → List Unretired
unretired_of w c =
    let k = core_of w.card c in
    committed_ones k.homed (committed_of w c)
    ++ (cond k.closed.live (closed_as c k ∷ []) []
    ++ cond k.running.live (running_as c k ∷ []) [])

-- all, in order of core and number
unfoldable pub unretired_now : World → List Unretired
unretired_now w = flat_map (unretired_of w) (below (shape_of w.card).cores)

-- ---- the work left of one that took n blocks
-- the CLOSEs: of the four commands this one stores nothing
unfoldable pub closes_for : Stage → ℕ
closes_for absent = 0
closes_for running = 1
closes_for (closed k) = 0
closes_for (committed h) = 0
closes_for retired = 0

-- 'Stores go: descriptor, data in the order taken, commit.', then a CHECKPOINT for each image and a RETIRE for the master; less what is
-- done, which on a card that no run made may be more than there is: the commit and the master are still left
unfoldable pub stores_for : Stage → ℕ → ℕ
stores_for absent n = 0
stores_for running n = (n + 2) + (n + 1)
stores_for (closed k) n = ((n + 1 - k) + 1) + (n + 1)
stores_for (committed h) n = (n - h) + 1
stores_for retired n = 0

unfoldable pub closes_left : Unretired → ℕ
closes_left u = closes_for u.stage

unfoldable pub stores_left : Unretired → ℕ
stores_left u = stores_for u.stage u.count

unfoldable pub commands_left : Unretired → ℕ
commands_left u = closes_left u + stores_left u

-- 'It is at most 2 + 2 × (blocks it took) + 2 for each transaction', here of n blocks
abbrev pub most_for : ℕ → ℕ
most_for n = 2 + 2 * n + 2

unfoldable pub most_commands : Unretired → ℕ
most_commands u = most_for u.count

-- ---- 'The order is by stamp.' (ties, which a card that no run made may have, by core and number); 'running ones close in order of core'
unfoldable pub runs : Unretired → Bool
runs u = is_running u.stage

unfoldable pub in_order : List Unretired → List Unretired
in_order us = sort_by (λ (u : Unretired). u.stamp) (select (λ (u : Unretired). not (runs u)) us) ++ select runs us

-- ---- the plan, with 'Counted commands and stores in the planner's result': the number of a refusal, the commands, those of them that store,
-- and the order
pub record Planned : Type 0 where
  pub number : ℕ
  pub commands : ℕ
  pub stores : ℕ
  pub order : List Name

unfoldable pub plan_for : List Unretired → Planned
plan_for us = record { number = 0; commands = total commands_left us; stores = total stores_left us; order = map (λ (u : Unretired). u.name) (in_order us) }

-- a refusal has its number alone
abbrev pub no_plan : ℕ → Planned
no_plan n = record { number = n; commands = 0; stores = 0; order = [] }

-- 'A card that is blank or down gets 20 or 22.', and slices of another length 1
unfoldable pub plan : World → Planned
plan w = elim (refusal (not_up w [])) [ zero ↦ plan_for (unretired_now w) | suc n ↦ no_plan (suc n) ]
