-- The largest set in which each meets a test of the set, and 'depends on'. The valid set and the kept set are such sets.
use Rattle.std.specs.Prelude.{ℕ, zero, suc, ◌≡◌, Bool, true, false, length, eqb}
use mathlib.Core.List.{List, Memᴰ}
use Rattle.model.specs.Lists.{select}

module _ {A : Type 0} where
  -- each of the set meets the test in it
  abbrev pub AllStay : (List A → A → Bool) → List A → Type 0
  AllStay stays es = (e : A) → Memᴰ e es → stays es e ≡ true

  -- one set lies in another
  abbrev pub Within : List A → List A → Type 0
  Within ss es = (e : A) → Memᴰ e ss → Memᴰ e es

  -- those of the set that meet the test in it
  unfoldable pub strike : (List A → A → Bool) → List A → List A
  strike stays es = select (stays es) es

  -- struck again and again until none goes, at most so many times
  unfoldable pub shrink_in : ℕ → (List A → A → Bool) → List A → List A
  shrink_in zero stays es = es
  shrink_in (suc n) stays es = elim (eqb (length (strike stays es)) (length es)) [ true ↦ es | false ↦ shrink_in n stays (strike stays es) ]

  unfoldable pub shrink : (List A → A → Bool) → List A → List A
  shrink stays es = shrink_in (length es) stays es

  -- 'A transaction depends on those its list names and on all that these depend on.'; by paper 02, (c), also on the one before it
  pub data DependsOn (Requires : A → A → Type 0) : A → A → Type 0 where
    requires_it : {t u : A} → Requires t u → DependsOn Requires t u
    through : {t u v : A} → Requires t u → DependsOn Requires u v → DependsOn Requires t v
