-- Tests: a test that holds and fails, a function of either case, and types whose equality is tested.
-- A set of transactions is given by a test throughout the proof, so that histories can be cut by it.
-- The two equalities used are those of names and of block numbers.
use Prim.Native.Nat.{ℕ}
use mathlib.Core.Path.{◌≡◌, refl, sym, ◌∙◌}
use mathlib.Core.Bool.{Bool, true, false, So, true≢false, cond}
use mathlib.Core.List.Memᴰ
use mathlib.Core.List.{List, Memᴰ}
use lib.Dec.{eqb}
use borrow.Author.Tests.{eqb-true, eq-eqb}
use Rattle.model.specs.Lists.{any}
use Rattle.model.specs.Card.{same_name}
use Rattle.model.specs.declared.Name.{Name}
use Rattle.model.proofs.Lists.{any_mem, mem_any}
use Rattle.model.proofs.Valid.{same_name_true, same_name_refl}

pub clash {ℓ} : {A : Type ℓ} {b : Bool} → b ≡ true → b ≡ false → A
clash p q = absurd (true≢false (sym p ∙ q))

pub impossible : {A : Type 0} → false ≡ true → A
impossible h = clash h refl

pub false_of : (b : Bool) → (So b → ⊥) → b ≡ false
false_of true f = absurd (f refl)
false_of false f = refl

pub cond_apply : {A B : Type 0} (f : A → B) (t : Bool) (x y : A) → cond t (f x) (f y) ≡ f (cond t x y)
cond_apply f true x y = refl
cond_apply f false x y = refl

pub record Equality (A : Type 0) : Type 0 where
  pub is : A → A → Bool
  pub is_true : (a b : A) → So (is a b) → a ≡ b
  pub is_refl : (a : A) → So (is a a)

-- what `any` says of a list by the test for equality
module _ {A : Type 0} (E : Equality A) where
  pub any_in : (a : A) (xs : List A) → So (any (E.is a) xs) → Memᴰ a xs
  any_in a xs h = let r = any_mem (E.is a) xs h in Memᴰ.cast (E.is_true a r.0 r.2) r.1

  pub in_any : {a : A} {xs : List A} → Memᴰ a xs → So (any (E.is a) xs)
  in_any {a} m = mem_any (E.is a) m (E.is_refl a)

abbrev pub name_equality : Equality Name
name_equality = record { is = same_name; is_true = same_name_true; is_refl = same_name_refl }

abbrev pub block_equality : Equality ℕ
block_equality = record { is = eqb; is_true = eqb-true; is_refl = λ n. eq-eqb n n refl }
