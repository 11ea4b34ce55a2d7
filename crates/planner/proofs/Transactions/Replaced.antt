-- What a command does to the list of unretired transactions: one of them is replaced. And the order with the stamps that the running ones
-- will get.
use Prim.Native.Nat.{ℕ, suc}
use mathlib.Core.Path.{◌≡◌}
use mathlib.Core.List.{List, [], ◌∷◌, ◌++◌, map}
use mathlib.Core.Bool.{not}
use Rattle.model.specs.Lists.{select, sort_by}
use Rattle.model.specs.declared.Name.{Name}
use Rattle.planner.specs.Plan.{Unretired, runs}

-- one transaction of a list replaced by what became of it: itself further on, or nothing
pub record Replaced (us vs : List Unretired) (a : Unretired) (bs : List Unretired) : Type 0 where
  pub before : List Unretired
  pub after : List Unretired
  pub was : us ≡ before ++ (a ∷ after)
  pub is : vs ≡ before ++ (bs ++ after)

-- a name with its stamp
pub record Stamped : Type 0 where
  pub name : Name
  pub stamp : ℕ

abbrev pub new_stamped : Name → ℕ → Stamped
new_stamped t s = record { name = t; stamp = s }

abbrev pub stamped_as : Unretired → Stamped
stamped_as u = new_stamped u.name u.stamp

-- running ones in order of core, closed one after another when n closes have been counted
unfoldable pub closed_from : ℕ → List Unretired → List Stamped
closed_from n [] = []
closed_from n (u ∷ us) = new_stamped u.name (suc n) ∷ closed_from (suc n) us

-- the order with the stamps that the transactions have when they are retired
unfoldable pub order_from : ℕ → List Unretired → List Stamped
order_from n us = map stamped_as (sort_by (λ (u : Unretired). u.stamp) (select (λ (u : Unretired). not (runs u)) us)) ++ closed_from n (select runs us)
