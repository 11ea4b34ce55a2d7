-- Paper 02, (d), computed. Where paper 01 answered 24, at a thirteenth name, all is carried out: the book has thirteen names, the commit the
-- highest number of each core. And a disk as FORMAT left it before (d) is brought up with 1 in its master.
use Prim.Native.Nat.{ℕ, ◌+◌, ◌*◌}
use mathlib.Core.Path.{◌≡◌, refl}
use mathlib.Core.Bool.{true}
use mathlib.Core.List.{List, [], ◌∷◌, ◌++◌, map, flat_map}
use lib.ListN.{length}
use lib.Dec.{eqb}
use Rattle.model.specs.Lists.{below, all}
use Rattle.model.specs.Bytes.{Bytes, be4, block_at, zero_memory}
use Rattle.model.specs.Shape.{new_shape}
use Rattle.model.specs.Card.{new_name}
use Rattle.model.specs.Command.{World}
use Rattle.model.specs.Tape.{Point, run, world_after}
use Rattle.model.specs.Printing.{blank_world}
use Rattle.model.specs.Valid.{in_sequence}
use Rattle.model.specs.Step.{step_at}
use Rattle.model.specs.declared.CommitLayout.TheVariants.{Lists}
use Rattle.crash.specs.Service.{Service, empty_service}
use Rattle.crash.specs.Claims.{fed_point, Start, from_down, start_world}
use Rattle.refuted.proofs.Tapes.{tests, format, write, close, stores, recovers}

abbrev fed_all : Service → List (Point World) → Service
fed_all v [] = v
fed_all v (p ∷ ps) = fed_all (fed_point p v) ps

-- Seven cores write into core 0's block, six of them close and write into it again; then core 0 commits.
abbrev writers : ℕ → Bytes
writers n = flat_map (λ (c : ℕ). write (1 + c) 0 4 2) (below n)

abbrev thirteen_names : Bytes
thirteen_names = format 8 1 4 ++ write 0 0 0 1 ++ writers 7 ++ flat_map (λ (c : ℕ). close (1 + c)) (below 6) ++ writers 6 ++ close 0 ++ stores 0 3

abbrev points : List (Point World)
points = run step_at thirteen_names blank_world

pub thirteen_done : all (λ (p : Point World). eqb p.outcome.answer 0) points ≡ true
unfolding tests
thirteen_done = refl

pub thirteen_listed : length ((fed_all (empty_service in_sequence 0) points).book.entry (new_name 0 1)).names ≡ 13
unfolding tests
thirteen_listed = refl

-- bytes 20 to 59 of its commit
pub thirteen_stored : map (λ (i : ℕ). be4 (block_at (world_after blank_world points).disk 4) (20 + 4 * i)) (below 10) ≡ 0 ∷ 0 ∷ 2 ∷ 2 ∷ 2 ∷ 2 ∷ 2 ∷ 2 ∷ 1 ∷ 0 ∷ []
unfolding tests
thirteen_stored = refl

-- ---- the third start
abbrev older : Start
older = from_down Lists (new_shape 2 2 4) zero_memory

abbrev brought : World
brought = world_after (start_world older) (run step_at (recovers 1) (start_world older))

pub older_brought_up : (be4 (block_at (start_world older).disk 0) 8 ≡ 0) × (be4 (block_at brought.disk 0) 8 ≡ 1)
unfolding tests
older_brought_up = (refl, refl)
