-- `model::Shape::clamped` meets its contract: each number is the nearest one within its limits.
use Rattle.std.proofs.Common.{◌≡◌, ℕ, ◌≤◌, max, min, arith}
use Rattle.std.proofs.lemmas.Bool.Decides.{nat_tests}
use Rattle.model.specs.Shape.{clamped, nearest}
use Rattle.model.proofs.Shape.clamped.Goals as goal

within : (low x high : ℕ) → low ≤ high → max low (min x high) ≡ nearest low x high
unfolding nearest
within low x high h = grind (arith, nat_tests)

pub returns : goal.returns
unfolding clamped
returns c =
    rw (
      c.clamp.ensures,
      c.clamp-2.ensures,
      c.clamp-3.ensures,
      within 1 c.args.self.cores 8 (omega arith),
      within 1 c.args.self.blocks 64 (omega arith),
      within 4 c.args.self.journal 24 (omega arith),
    )
