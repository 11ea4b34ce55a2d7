-- `model::Shape::journal_block` meets its contract: the clamped shape is within the limits, so nothing wraps.
use Prim.Native.Nat.{ℕ, ◌*◌, ◌≤◌, ◌<◌}
use native.Mathlib.Omega.{arith}
use native.Mathlib.Nat.{mod-lt, mul-le-mul}
use mathlib.Core.Path.{◌≡◌, subst, sym}
use borrow.Author.Rules.{rules}
use Rattle.model.specs.Shape.{clamped, journal_block}
use Rattle.model.specs.declared.Shape.{Shape}
use Rattle.model.proofs.Limits.{InRange, clamped_range}
use Rattle.model.proofs.Shape.journal_block.Goals as goal

-- what the clamped shape keeps to, and the bound of the product
range : (s r : Shape) → r ≡ clamped s → InRange r
range s r e = subst InRange (sym e) (clamped_range s)

product : (c j : ℕ) → c < 256 → j ≤ 24 → c * j ≤ 255 * 24
product c j h k = mul-le-mul {n₁ = c} {n₂ = 255} (omega arith) k

pub overflow_mul-result : goal.overflow_mul-result
overflow_mul-result c =
    let r = range _ _ c.clamped-s.ensures in
    omega (arith, product c.args.c c.clamped-s.result.journal (search rules) r.short)

pub overflow_add-result-2 : goal.overflow_add-result-2
overflow_add-result-2 c =
    let r = range _ _ c.clamped-s.ensures in
    omega (arith, product c.args.c c.clamped-s.result.journal (search rules) r.short)

pub overflow_add-result-3 : goal.overflow_add-result-3
overflow_add-result-3 c =
    let r = range _ _ c.clamped-s.ensures in
    let z : 0 < c.clamped-s.result.journal = omega (arith, r.long) in
    omega (
      arith,
      product c.args.c c.clamped-s.result.journal (search rules) r.short,
      mod-lt c.args.p z,
      c.around.ensures,
    )

pub returns : goal.returns
unfolding journal_block
returns c = rw (c.around.ensures, c.clamped-s.ensures)
