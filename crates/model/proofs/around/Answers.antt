-- `model::around` meets its contract: below j, or once past it, or divided; nothing is taken off where j is 0.
use Prim.Native.Nat.{ℕ, ◌-◌, ◌%◌, ◌≤◌, ◌<◌}
use native.Mathlib.Nat.{mod-zero, mod-eq_of_lt, mod-eq-sub-mod}
use mathlib.Core.Path.{◌≡◌, sym, ap, ◌∙◌}
use borrow.Author.Rules.{rules}
use Rattle.model.proofs.around.Goals as goal

below-it : (p j : ℕ) → p < j → p ≡ p % j
below-it p j h = sym (mod-eq_of_lt h)

zero-it : (p j : ℕ) → j ≡ 0 → p ≡ p % j
zero-it p j h = sym (ap (λ (i : ℕ). p % i) h ∙ mod-zero p)

once-past : (p j : ℕ) → j ≤ p → p - j < j → p - j ≡ p % j
once-past p j h g = sym (mod-eq-sub-mod h ∙ mod-eq_of_lt g)

pub returns-then-p-j : goal.returns-then-p-j
returns-then-p-j c = search (rules, below-it)

pub returns-then-j-eq0 : goal.returns-then-j-eq0
returns-then-j-eq0 c = search (rules, zero-it)

pub returns-then-p-j-2 : goal.returns-then-p-j-2
returns-then-p-j-2 c = search (rules, once-past)
