-- The run that empties the journals, command by command: nothing of the figure is in it.
use Rattle.std.specs.Prelude.{ℕ, zero, suc, Bool, true, false, cond, not, ◌&&◌, take, eqb}
use mathlib.Core.List.{List, [], ◌∷◌, ◌++◌, map, flat_map}
use Rattle.std.proofs.Math.Option.{Option, none, some}
use Rattle.model.specs.Lists.{below, all, select, total, sort_by}
use Rattle.model.specs.Card.{shape_of, tail_of, core_of}
use Rattle.model.specs.Bytes.{block_at}
use Rattle.model.specs.Layout.{is_master}
use Rattle.model.specs.Command.{World, Outcome}
use Rattle.model.specs.Checkpoint.{committed_of, oldest, images_left}
use Rattle.model.specs.Recovery.{committed_on}
use Rattle.model.specs.Step.{step}
use Rattle.model.specs.Tape.{Command, FORMAT, WRITE, CLOSE, STORE, CHECKPOINT, CUT, RECOVER, RETIRE}
use Rattle.model.specs.declared.Committed.{Committed}

-- ---- choosing
abbrev pub cores_of : World → List ℕ
cores_of w = below (shape_of w.card).cores

abbrev pub runs_on : World → ℕ → Bool
runs_on w c = (core_of w.card c).running.live

abbrev pub closed_on : World → ℕ → Bool
closed_on w c = (core_of w.card c).closed.live

-- each core's oldest committed transaction
unfoldable pub oldest_ones : World → List Committed
oldest_ones w = flat_map (λ (c : ℕ). take 1 (committed_of w c)) (cores_of w)

-- the next command of core c's oldest
abbrev pub oldest_next : World → ℕ → Command
oldest_next w c = cond (images_left c w) (CHECKPOINT c) (RETIRE c)

-- what is left to choose from, the first choice first: a STORE for each closed one, a CLOSE for each running one ('running ones close in order
-- of core'), for each core's oldest a CHECKPOINT or, its home stores done, a RETIRE ('The order is by stamp.')
unfoldable pub choices : World → List Command
choices w =
    map STORE (select (closed_on w) (cores_of w))
    ++ (map CLOSE (select (runs_on w) (cores_of w))
    ++ map (λ (e : Committed). oldest_next w e.core) (sort_by (λ (e : Committed). e.stamp) (oldest_ones w)))

unfoldable pub first_choice : List Command → Option Command
first_choice [] = none
first_choice (k ∷ ks) = some k

unfoldable pub next_command : World → Option Command
next_command w = first_choice (choices w)

-- ---- doing
-- one command of the run: what was chosen, where, and what came of it
pub record RunCommand : Type 0 where
  pub command : Command
  pub before : World
  pub outcome : Outcome World

-- what is chosen is done until there is nothing to choose, at most so many times
unfoldable pub doing : ℕ → (World → Option Command) → World → List RunCommand
doing zero next w = []
doing (suc n) next w =
    elim (next w) [ none ↦ [] | some k ↦ record { command = k; before = w; outcome = step k w } ∷ doing n next (step k w).world ]

-- more than the run takes on a card that a run made (`specs/Met.antt` `MetByDoing.ends`): by 26 the records of its unretired transactions, stored
-- yet or not, have 8 × 24 blocks at most, and one of n + 2 blocks takes at most 2 × (n + 2) commands
abbrev pub enough : ℕ
enough = 400

-- 'if nobody writes meanwhile'
unfoldable pub emptying_run : World → List RunCommand
emptying_run w = doing enough next_command w

-- ---- what was done
unfoldable pub world_done : World → List RunCommand → World
world_done w [] = w
world_done w (t ∷ ts) = world_done t.outcome.world ts

unfoldable pub all_done : List RunCommand → Bool
all_done ts = all (λ (t : RunCommand). eqb t.outcome.answer 0) ts

unfoldable pub stores_done : List RunCommand → ℕ
stores_done ts = total (λ (t : RunCommand). t.outcome.stores) ts

-- whom a RETIRE retired, with 'the master with the tail moved past it, which retires it': its core's oldest, where the tail number has
-- changed
unfoldable pub retired_by : Command → World → World → List Committed
retired_by (FORMAT c b j) w v = []
retired_by (WRITE task c b i x) w v = []
retired_by (CLOSE c) w v = []
retired_by (STORE c) w v = []
retired_by (CHECKPOINT c) w v = []
retired_by CUT w v = []
retired_by RECOVER w v = []
retired_by (RETIRE c) w v = cond (eqb (tail_of v.card c).number (tail_of w.card c).number) [] (oldest (committed_of w c) ∷ [])

-- who was retired, in order, with the stamp that it had
unfoldable pub retired_done : List RunCommand → List Committed
retired_done ts = flat_map (λ (t : RunCommand). retired_by t.command t.before t.outcome.world) ts

-- ---- empty
unfoldable pub is_empty : {A : Type 0} → List A → Bool
is_empty [] = true
is_empty (x ∷ xs) = false

-- 'empty every journal': recovery would take the disk and find no transaction in any journal, and none is closed, which STORE would still bring
-- there: all that are left are running
unfoldable pub only_running : World → Bool
only_running w = is_master (block_at w.disk 0) && is_empty (committed_on w.disk) && all (λ (c : ℕ). not (closed_on w c)) (cores_of w)

-- 'Empty also means that nothing runs any more'
unfoldable pub is_emptied : World → Bool
is_emptied w = only_running w && all (λ (c : ℕ). not (runs_on w c)) (cores_of w)

-- ---- any other run of those commands
abbrev pub is_emptying : Command → Bool
is_emptying (FORMAT c b j) = false
is_emptying (WRITE task c b i x) = false
is_emptying (CLOSE c) = true
is_emptying (STORE c) = true
is_emptying (CHECKPOINT c) = true
is_emptying CUT = false
is_emptying RECOVER = false
is_emptying (RETIRE c) = true
