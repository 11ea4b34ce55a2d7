-- `model::Shape::new` meets its contract: the three tests in turn are `in_range`.
use Rattle.std.proofs.Common.{◌≡◌, ℕ, Bool, true, false, cond, ◌&&◌, None, is_le, is_lt, nat_cmp, arith, refl, sym, ◌∙◌}
use Rattle.std.proofs.lemmas.Bool.Decides.{nat_tests}
use Rattle.model.specs.Shape.{between, in_range, checked}
use Rattle.model.proofs.Shape.new.Goals as goal
use Rattle.model.proofs.Shape.new.Goals.{else-contains-via-then-contains+then-contains-2+else-contains-3, else-contains-via-then-contains+else-contains-2, else-contains-via-else-contains}

-- what a range answers that has not been gone over
answered : (r t : Bool) (low high u v x : ℕ) → u ≡ low → v ≡ high → t ≡ false → r ≡ (is_le (nat_cmp u x) && cond t (is_lt (nat_cmp x v)) (is_le (nat_cmp x v))) → between low x high ≡ r
unfolding between
answered r t low high u v x a b e h = sym (h ∙ rw (a, b, e) (grind (arith, nat_tests)))

-- no shape where a number is out of its range
none_of : (c b j : ℕ) → in_range c b j ≡ false → None ≡ checked c b j
unfolding checked
none_of c b j h = rw h refl

ends_false : (p q : Bool) → q ≡ false → (p && q) ≡ false
ends_false p q h = rw h (elim p as (λ v. (v && false) ≡ false) [ true ↦ refl | false ↦ refl ])

pub returns-then-contains-3 : goal.returns-then-contains-3
unfolding checked in_range between
returns-then-contains-3 c = grind (arith, nat_tests)

pub returns : goal.returns
unfolding in_range
returns c =
    elim c.else-contains.branch [
      | else-contains-via-then-contains+then-contains-2+else-contains-3 w ↦
          let made = w.new-then-contains-2.ensures in
          none_of _ _ _ (ends_false _ _ (answered _ _ _ _ _ _ _ made.start made.end made.exhausted w.if-contains-3.ensures.value))
      | else-contains-via-then-contains+else-contains-2 w ↦
          let made = w.new-then-contains.ensures in
          none_of _ _ _ (rw (ends_false (between 1 c.args.cores 8) _ (answered _ _ _ _ _ _ _ made.start made.end made.exhausted w.if-contains-2.ensures.value)) refl)
      | else-contains-via-else-contains w ↦
          let made = c.new.ensures in
          none_of _ _ _ (rw (answered _ _ _ _ _ _ _ made.start made.end made.exhausted w.if-contains.ensures.value) refl)
    ]
