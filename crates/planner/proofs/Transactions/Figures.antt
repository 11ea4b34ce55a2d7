-- The figure of commands: at most what the paper allows, exactly that where all run, 0 only where nothing is left, and closes beside stores.
use Prim.Native.Nat.{ℕ, ◌+◌, ◌*◌, ◌≤◌}
use native.Mathlib.Omega.{arith}
use mathlib.Core.Path.{◌≡◌, refl}
use mathlib.Core.Bool.{true, false≢true}
use mathlib.Core.List.{List, [], ◌∷◌}
use Rattle.model.specs.Lists.{all, total, Each}
use Rattle.model.proofs.Lists.{mem_each, all_mem}
use Rattle.model.proofs.Totals.{total_sum, total_le, total_same}
use Rattle.crash.specs.Book.{Stage, absent, running, closed, committed, retired, is_running}
use Rattle.planner.specs.Plan.{Unretired, closes_for, stores_for, closes_left, stores_left, commands_left, most_commands, runs}

-- ---- one transaction, by its stage
stage_bound : (g : Stage) (n : ℕ) → closes_for g + stores_for g n ≤ 2 + 2 * n + 2
unfolding closes_for stores_for
stage_bound absent n = omega arith
stage_bound running n = omega arith
stage_bound (closed k) n = omega arith
stage_bound (committed h) n = omega arith
stage_bound retired n = omega arith

stage_running : (g : Stage) (n : ℕ) → is_running g ≡ true → closes_for g + stores_for g n ≡ 2 + 2 * n + 2
unfolding closes_for stores_for
stage_running absent n h = absurd (false≢true h)
stage_running running n h = omega arith
stage_running (closed k) n h = absurd (false≢true h)
stage_running (committed k) n h = absurd (false≢true h)
stage_running retired n h = absurd (false≢true h)

-- ---- all of them
one_bound : (u : Unretired) → commands_left u ≤ most_commands u
unfolding commands_left closes_left stores_left most_commands
one_bound u = stage_bound u.stage u.count

one_running : (u : Unretired) → runs u ≡ true → commands_left u ≡ most_commands u
unfolding commands_left closes_left stores_left most_commands runs
one_running u h = stage_running u.stage u.count h

pub bound : (us : List Unretired) → total commands_left us ≤ total most_commands us
bound us = total_le commands_left most_commands us (mem_each _ us (λ u m. one_bound u))

pub bound_running : (us : List Unretired) → all runs us ≡ true → total commands_left us ≡ total most_commands us
bound_running us h = total_same commands_left most_commands us (mem_each _ us (λ u m. one_running u (all_mem runs us h m)))

pub none_left_empty : (us : List Unretired) → Each (λ (u : Unretired). 1 ≤ commands_left u) us → total commands_left us ≡ 0 → us ≡ []
unfolding total
none_left_empty [] a e = refl
none_left_empty (u ∷ us) a e = absurd (omega (arith, a.0))

pub commands_split : (us : List Unretired) → total commands_left us ≡ total closes_left us + total stores_left us
unfolding commands_left
commands_split us = total_sum closes_left stores_left us
