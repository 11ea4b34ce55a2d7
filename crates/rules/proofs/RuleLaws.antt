-- WRITE: the writer's name, whether a name is of a running transaction, and the rule that is met: each return of the code is
-- one case of `rule_for`.
use Rattle.model.proofs.Base.{ℕ, ◌<◌, ◌≡◌, ap, ◌∙◌, Bool, true, false, cond, not, ◌&&◌, List, eqb, not-true, not-false}
use Rattle.model.specs.Card.{new_name, same_name, core_of, holder_of}
use Rattle.model.specs.Write.{writer_name, is_running_in, rule_for}
use Rattle.model.specs.declared.Name.{Name}
use mathlib.Core.Path.{refl}
use Rattle.std.specs.Prelude.{Some, None}
use Rattle.model.specs.Card.{Holder, holder_name}
use Rattle.model.specs.declared.Card.{Card}
use Rattle.model.specs.declared.Rule.{Rule}
use Rattle.model.specs.declared.Rule.TheVariants.{Free, Own, Running, Closed}
use Rattle.cells.specs.Cells.{number_in, card_in, core_place}
use Rattle.cells.proofs.ReadLaws.{next_there}
use Rattle.rules.specs.Conditions.{rule_met}

-- ---- a test g of the rule, that the code asks for by not g
module _ (g a : Bool) (q : g ≡ a) where
  pub and_not : (p : Bool) → not g ≡ true → false ≡ (a && p)
  and_not p z = rw (← q, not-true g z)

  pub and_test : (p f : Bool) → f ≡ p → not g ≡ false → f ≡ (a && p)
  and_test p f s z = s ∙ rw (← q, not-false g z)

  module _ {A : Type 0} (x y : A) where
    pub cond_not : not g ≡ true → y ≡ cond a x y
    cond_not z = rw (← q, not-true g z)

    pub cond_done : (v : A) → v ≡ x → not g ≡ false → v ≡ cond a x y
    cond_done v e z = e ∙ rw (← q, not-false g z)

-- ---- the writer's name
module _ (w : List ℕ) (c : ℕ) (h : c < 8) (p : ℕ) where
  pub name_met : p ≡ core_place c → (k : ℕ) → k ≡ number_in w p → new_name c k ≡ writer_name (card_in w) c
  unfolding writer_name
  name_met e k q = rw (next_there w c h p e k q)

-- ---- whether the transaction of a name runs
module _ (w : List ℕ) (n : Name) (g : Bool) (q : g ≡ (core_of (card_in w) n.core).running.live) where
  pub is_running_in_no : not g ≡ true → false ≡ is_running_in (card_in w) n
  unfolding is_running_in
  is_running_in_no z = and_not g _ q _ z

  pub is_running_in_yes : n.core < 8 → (p : ℕ) → p ≡ core_place n.core → (k : ℕ) → k ≡ number_in w p → not g ≡ false → eqb k n.number ≡ is_running_in (card_in w) n
  unfolding is_running_in
  is_running_in_yes h p e k s z = and_test g _ q _ _ (ap (λ (m : ℕ). eqb m n.number) (next_there w n.core h p e k s)) z

-- ---- the rule
none_left : (h : Holder) → ((n : Name) → h ≡ Some n → ⊥) → h ≡ None
none_left None f = refl
none_left (Some n) f = absurd (f n refl)

module _ (x : Card) (h : Holder) (own : Name) where
  pub rule_free : ((n : Name) → h ≡ Some n → ⊥) → (c b : ℕ) → h ≡ holder_of x b → own ≡ writer_name x c → Free ≡ rule_for x c b
  unfolding rule_for
  rule_free p c b e i = rw (← e, none_left h p)

  module _ (n : Name) (p : h ≡ Some n) (g : Bool) (s : g ≡ same_name n own) where
    pub rule_own : g ≡ true → (c b : ℕ) → h ≡ holder_of x b → own ≡ writer_name x c → Own ≡ rule_for x c b
    unfolding rule_for
    rule_own z c b e i = rw (← e, ← i, p, ← s, z)

    module _ (f : Bool) (q : f ≡ is_running_in x n) (z : g ≡ false) where
      pub rule_closed : not f ≡ true → (c b : ℕ) → h ≡ holder_of x b → own ≡ writer_name x c → Closed ≡ rule_for x c b
      unfolding rule_for
      rule_closed v c b e i = rw (← e, ← i, p, ← s, z, ← q, not-true f v)

      pub rule_running : not f ≡ false → (c b : ℕ) → h ≡ holder_of x b → own ≡ writer_name x c → Running ≡ rule_for x c b
      unfolding rule_for
      rule_running v c b e i = rw (← e, ← i, p, ← s, z, ← q, not-false f v)

-- ---- what a WRITE of core c to block b finds
pub rule_met_found : (x : Card) (c b : ℕ) (h : Holder) → h ≡ holder_of x b → (own : Name) → own ≡ writer_name x c → (r : Rule) → ((a d : ℕ) → h ≡ holder_of x d → own ≡ writer_name x a → r ≡ rule_for x a d)
    → record { core = c; block = b; rule = r; holder = holder_name h; own = own } ≡ rule_met x c b
rule_met_found x c b h p own q r e = rw (e c b p q, q, p)
