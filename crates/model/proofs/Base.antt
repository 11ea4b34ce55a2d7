-- What proofs are written with, in one place: numbers, equations, truth values, lists, and tests with how they are decided.
-- No lemma of its own.
pub use Prim.Native.Nat.{ℕ, zero, suc, ◌+◌, ◌-◌, ◌*◌, ◌/◌, ◌%◌, ◌^◌, ◌≤◌, ◌<◌, min}
pub use native.Mathlib.Omega.{arith}
pub use native.Mathlib.Decide.{dec_lt, ℕ_discrete}
pub use native.Mathlib.Numerals.{add-one}
pub use native.Mathlib.Nat.{add-zero}
pub use mathlib.Core.Path.{◌≡◌, refl, sym, ap, ap₂, subst, fun_ext, ◌∙◌}
pub use mathlib.Core.Logic.{◌≢◌, ◌⊎◌, inl, inr, ⊎_elim, ⊎_map}
pub use mathlib.Core.Bool.{Bool, true, false, cond, not, ◌&&◌, ◌||◌, So, true≢false, false≢true}
pub use mathlib.Core.Option.{Option, none, some}
pub use mathlib.Core.List.{List, [], ◌∷◌, ◌++◌, map, append_assoc, append-nil, map-append}
pub use mathlib.Core.List.Memᴰ.{append_cases as mem_append_cases}
pub use mathlib.Core.List.Memᴰ.{cases_cons as mem_cases_cons}
pub use mathlib.Core.List.Memᴰ.{cast as mem_cast}
pub use mathlib.Core.List.Memᴰ.{eq_of_singleton as mem_eq_of_singleton}
pub use mathlib.Core.List.Memᴰ.{head as mem_head}
pub use mathlib.Core.List.Memᴰ.{not-nil as mem_not_nil}
pub use mathlib.Core.List.Memᴰ.{tail as mem_tail}
pub use mathlib.Core.List.{Memᴰ}
pub use lib.ListN.{length, take, drop, get_or, set, replicate, length-set, length-map, length-take, length-drop, length-append, length-replicate, get_or-map as list_get_or_map, get_or-append as list_get_or_append, get_or-replicate}
pub use lib.Seq.{get_or-set_same, get_or-set_other, take_all, take-suc, get_or_at, get_or-take, ext_get_or}
pub use lib.Dec.{eqb, ltb, leb}
pub use borrow.Author.Tests.{eq-eqb, ne_eqb, eqb-true, eqb-false, lt-ltb, le-ltb, ltb-true, ltb-false, le-leb, lt-leb, leb-true, leb-false, not-true, not-false}
unfoldable pub use mathlib.Core.List.{flat_map}
unfoldable pub use Rattle.model.specs.Lists.{below, any, all, select}
pub use Rattle.model.specs.Bytes.{Bytes}
