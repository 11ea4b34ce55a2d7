-- The work left of each transaction, as the code finds it: of each core its committed ones by their records, then its closed one, then its
-- running one. xs are the extents of the records read; start and count say of each core where its records begin among them and how many
-- there are.
use Rattle.std.specs.Prelude.{ℕ, ◌+◌, ◌≤◌, ◌<◌, cond, eqb, get_or, Option, None, Some}
use mathlib.Core.List.{List, [], ◌∷◌, ◌++◌, map, flat_map}
use Rattle.model.specs.Lists.{below}
use Rattle.model.specs.Card.{shape_of, tail_of, core_of}
use Rattle.model.specs.declared.Core.{Core}
use Rattle.model.specs.declared.Card.{Card}
use Rattle.journal.specs.declared.extents.Extent.{Extent}
use Rattle.journal.specs.Records.{extent_at, record_in}
use Rattle.cells.specs.Cells.{name_cell}
use Rattle.planner.specs.Plan.{Unretired, committed_as, closed_as, running_as, runs, stores_left}
use Rattle.planner.specs.declared.Work.{Work}

-- one that runs has no stamp yet
unfoldable pub work_of : Unretired → Work
work_of u = record { name = name_cell u.name; stamp = cond (runs u) None (Some u.stamp); stores = stores_left u }

-- the work, if there is one
unfoldable pub listed : Option Work → List Work
listed None = []
listed (Some k) = k ∷ []

-- ---- a core's
-- the home stores done of its j-th committed one
unfoldable pub homed_at : Core → ℕ → ℕ
homed_at k j = cond (eqb j 0) k.homed 0

-- its j-th committed one, whose record stands at place i
unfoldable pub committed_work : Card → List Extent → ℕ → ℕ → ℕ → Work
committed_work x xs c j i = work_of (committed_as (homed_at (core_of x c) j) (record_in xs c ((tail_of x c).number + j) i))

-- its first n committed ones, whose records stand from place a on
unfoldable pub committed_works : Card → List Extent → ℕ → ℕ → ℕ → List Work
committed_works x xs c a n = map (λ (j : ℕ). committed_work x xs c j (a + j)) (below n)

unfoldable pub closed_work : ℕ → Core → Option Work
closed_work c k = cond k.closed.live (Some (work_of (closed_as c k))) None

unfoldable pub running_work : ℕ → Core → Option Work
running_work c k = cond k.running.live (Some (work_of (running_as c k))) None

-- both of these, where there are such
unfoldable pub uncommitted_works : Card → ℕ → List Work
uncommitted_works x c = listed (closed_work c (core_of x c)) ++ listed (running_work c (core_of x c))

-- all of them
unfoldable pub core_works : Card → List Extent → ℕ → ℕ → ℕ → List Work
core_works x xs c a n = committed_works x xs c a n ++ uncommitted_works x c

-- ---- those of the first n cores
unfoldable pub works_to : Card → List Extent → List ℕ → List ℕ → ℕ → List Work
works_to x xs start count n = flat_map (λ (c : ℕ). core_works x xs c (get_or start c 0) (get_or count c 0)) (below n)

-- ---- what functions over records ask of them
-- n records from place a on: no more than a journal has, all within the arrays, and none of more blocks than a record can have
pub record RunSized (xs : List Extent) (a n : ℕ) : Type 0 where
  pub few : n ≤ 12
  pub room : a + n ≤ 96
  pub sized : (j : ℕ) → j < n → (extent_at xs (a + j)).count ≤ 8

-- those of all cores
unfoldable pub RunsSized : Card → List Extent → List ℕ → List ℕ → Type 0
RunsSized x xs start count = (c : ℕ) → c < (shape_of x).cores → RunSized xs (get_or start c 0) (get_or count c 0)
