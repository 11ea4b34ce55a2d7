-- Conditions joined by and, and the tests in them, from what calls answered: the rules by which a chain of early
-- returns is a chain of conditions.
use Rattle.model.proofs.Base.{ℕ, ◌≤◌, ◌<◌, arith, ◌≡◌, refl, sym, ◌∙◌, Bool, true, false, cond, not, ◌&&◌, eqb, ltb, leb, eq-eqb}
use Rattle.model.proofs.Base.{ne_eqb, lt-ltb, le-ltb, le-leb, lt-leb, not-true, not-false}
use Rattle.model.proofs.Lists.{and_both}

-- ---- and
-- the last condition decides where those before it hold
pub and_last : (a b r : Bool) → a ≡ true → r ≡ b → r ≡ (a && b)
and_last a b r h q = q ∙ rw h

-- the last of them fails, or one before it
pub fails : (a : Bool) → a ≡ false → false ≡ a
fails a h = sym h

pub and_here : (a b : Bool) → b ≡ false → (a && b) ≡ false
and_here true b h = h
and_here false b h = refl

pub and_before : (a b : Bool) → a ≡ false → (a && b) ≡ false
and_before a b h = rw h

-- ---- the two ways of a choice
module _ {A : Type 0} where
  pub cond_yes : (t : Bool) (a b r : A) → t ≡ true → r ≡ a → r ≡ cond t a b
  cond_yes t a b r h q = q ∙ rw h

  pub cond_no : (t : Bool) (a b r : A) → t ≡ false → r ≡ b → r ≡ cond t a b
  cond_no t a b r h q = q ∙ rw h

-- ---- a call answered g, which is a
module _ (g a k : ℕ) (e : g ≡ a) where
  pub eq_yes : g ≡ k → eqb a k ≡ true
  eq_yes h = eq-eqb a k (sym e ∙ h)

  pub eq_no : (g ≡ k → ⊥) → eqb a k ≡ false
  eq_no h = ne_eqb a k (λ z. h (e ∙ z))

  pub le_yes : g ≤ k → leb a k ≡ true
  le_yes h = le-leb a k (omega arith)

  pub le_no : k < g → leb a k ≡ false
  le_no h = lt-leb a k (omega arith)

  pub lt_yes : g < k → ltb a k ≡ true
  lt_yes h = lt-ltb a k (omega arith)

  pub lt_no : k ≤ g → ltb a k ≡ false
  lt_no h = le-ltb a k (omega arith)

  pub ge_yes : k ≤ g → leb k a ≡ true
  ge_yes h = le-leb k a (omega arith)

  pub ge_no : g < k → leb k a ≡ false
  ge_no h = lt-leb k a (omega arith)

  pub eq_same : eqb g k ≡ eqb a k
  eq_same = rw e

  pub le_same : leb g k ≡ leb a k
  le_same = rw e

  pub ge_same : leb k g ≡ leb k a
  ge_same = rw e

pub call_no : (r x : Bool) → r ≡ x → not r ≡ true → x ≡ false
call_no r x e h = sym e ∙ not-true r h

pub call_yes : (r x : Bool) → r ≡ x → not r ≡ false → x ≡ true
call_yes r x e h = sym e ∙ not-false r h

pub ruleset tests = (
  fails,
  and_last,
  and_both,
  and_here,
  and_before,
  cond_yes,
  cond_no,
  eq_yes,
  eq_no,
  le_yes,
  le_no,
  lt_yes,
  lt_no,
  ge_yes,
  ge_no,
  eq_same,
  le_same,
  ge_same,
  call_no,
  call_yes,
  ne_eqb,
)
