-- The shape as it is read is within its limits. A core by its numbers.
use Rattle.model.proofs.Base.{ℕ, ◌<◌, arith, ◌≡◌, sym, subst}
use Rattle.model.specs.Card.{shape_of}
use Rattle.model.specs.declared.Shape.{Shape}
use Rattle.model.specs.declared.Core.{Core}
use Rattle.model.specs.declared.Card.{Card}
use Rattle.model.proofs.OneStore.{shape_limits}
use Rattle.model.proofs.Limits.{InRange}
use Rattle.cells.specs.Changes.{with_numbers}

pub shape_range : (x : Card) (s : Shape) → s ≡ shape_of x → InRange s
shape_range x s e = subst InRange (sym e) (shape_limits x)

pub core_low : (x : Card) (c : ℕ) → c < (shape_of x).cores → c < 8
core_low x c h = omega (arith, (shape_limits x).few_cores)

-- two cores of the same numbers
pub same_numbers : (k : Core) (a b d e f g i j : ℕ) → a ≡ b → d ≡ e → f ≡ g → i ≡ j → with_numbers k a d f i ≡ with_numbers k b e g j
same_numbers k a b d e f g i j p q r s = rw (p, q, r, s)
