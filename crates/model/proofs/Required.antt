-- What a transaction requires under either rule: what it lists, and at most the one before it.
use Prim.Native.Nat.{ℕ, ◌<◌}
use mathlib.Core.Path.{◌≡◌, refl, sym, subst}
use mathlib.Core.Logic.{◌⊎◌, inl, inr}
use mathlib.Core.List.Memᴰ
use mathlib.Core.List.{List, Memᴰ}
use Rattle.model.specs.Valid.{Order, unordered, in_sequence, predecessor, required}
use Rattle.model.specs.declared.Name.{Name}

pub listed_required : (o : Order) (t n : Name) (ns : List Name) → Memᴰ n ns → Memᴰ n (required o t ns)
unfolding required
listed_required unordered t n ns m = m
listed_required in_sequence t n ns m = Memᴰ.tail m

pub required_cases : (o : Order) (t n : Name) (ns : List Name) → Memᴰ n (required o t ns) → Memᴰ n ns ⊎ (n ≡ predecessor t)
unfolding required
required_cases unordered t n ns m = inl m
required_cases in_sequence t n ns m = elim (Memᴰ.cases_cons m) [ inl e ↦ inr e | inr l ↦ inl l ]

-- each is of a core below a bound, where the transaction is and each that it lists is
pub required_core : (o : Order) (t : Name) (ns : List Name) (b : ℕ) → t.core < b → ((n : Name) → Memᴰ n ns → n.core < b) → (n : Name) → Memᴰ n (required o t ns) → n.core < b
required_core o t ns b h l n m =
    elim (required_cases o t n ns m) [ inl i ↦ l n i | inr e ↦ subst (λ (x : Name). x.core < b) (sym e) h ]

pub predecessor_required : (t : Name) (ns : List Name) → Memᴰ (predecessor t) (required in_sequence t ns)
unfolding required
predecessor_required t ns = Memᴰ.head refl
