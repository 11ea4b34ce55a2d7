-- The cores that a commit names: whether one is, in either layout, and how many, counted one after another.
use Rattle.model.proofs.Base.{ℕ, ◌<◌, min, arith, ◌≡◌, refl, sym, ap, ◌∙◌, Bool, false≢true}
use Rattle.model.proofs.Base.{List, [], ◌∷◌, length, eqb, leb, eq-eqb, le-leb, any, Bytes}
use borrow.Author.Tests.{eqb-true, leb-true}
use Rattle.std.proofs.lemmas.Bool.Decides.{nat_tests}
use Rattle.model.specs.Lists.{select}
use Rattle.model.specs.Card.{new_name}
use Rattle.model.specs.Layout.{pair_at, pairs_in, names_from, names_in, name_count, number_named, cores_named}
use Rattle.model.specs.Limits.{max_names}
use Rattle.model.specs.declared.Name.{Name}
use Rattle.model.specs.declared.CommitLayout.{CommitLayout}
use Rattle.model.specs.declared.CommitLayout.TheVariants.{Lists, Numbers}
use Rattle.model.proofs.Lists.{cases, any_mem, mem_any}
use Rattle.model.proofs.Highest.{names_from_lem, from_names}
use Rattle.layout.specs.Loops.{some}
use Rattle.layout.specs.Named.{is_of_core, names_core}
use Rattle.layout.proofs.Loops.{some_map}
use Rattle.layout.proofs.Ranges.{range_below}
use Rattle.std.specs.List.{filter, range_with_len}

-- ---- one core
-- by its number
numbered : (f : ℕ → ℕ) (c : ℕ) → c < 8 → leb 1 (f c) ≡ names_core (names_from f) c
unfolding names_core
numbered f c h =
    let p : Name → Bool = λ n. eqb c n.core in
    cases (any p (names_from f))
    (λ t.
    let m = any_mem p (names_from f) t in
    let n = names_from_lem f m.0 m.1 in
    let e : f c ≡ f n.0 = ap f (eqb-true c m.0.core m.2 ∙ ap (λ (x : Name). x.core) n.3) in
    le-leb 1 (f c) (omega (arith, n.2)) ∙ sym t)
    (λ t.
    cases (leb 1 (f c))
    (λ g. absurd (false≢true (sym t ∙ mem_any p (from_names f c h (leb-true 1 (f c) g)) (eq-eqb c c refl))))
    (λ g. g ∙ sym t))

-- of a name in a list
pub core_same : (b : Bytes) (c i x : ℕ) → x ≡ (pair_at new_name b 24 i).core → eqb x c ≡ is_of_core b c i
unfolding is_of_core
core_same b c i x e = rw (← e) (grind (arith, nat_tests))

module _ (y : CommitLayout) (b : Bytes) (c : ℕ) where
  pub core_listed : y ≡ Lists → (n : ℕ) (r : Bool) → n ≡ min (name_count b) max_names → r ≡ some n (is_of_core b c)
      → r ≡ names_core (names_in y b) c
  unfolding is_of_core names_core names_in pairs_in
  core_listed h n r l e =
      rw (h, ← l) (e ∙ some_map (λ (n : Name). eqb c n.core) (pair_at new_name b 24) n)

  pub core_numbered : y ≡ Numbers → (x : ℕ) → x ≡ number_named b c → c < 8 → leb 1 x ≡ names_core (names_in y b) c
  unfolding names_in
  core_numbered h x e l = rw (h, e) (numbered (number_named b) c l)

-- ---- all of them
filtered : (p : ℕ → Bool) (xs : List ℕ) → filter p xs ≡ select p xs
unfolding select
filtered p [] = refl
filtered p (x ∷ xs) = cases (p x) (λ h. rw h (ap (λ (l : List ℕ). x ∷ l) (filtered p xs))) (λ h. rw h (filtered p xs))

pub cores_counted : (ns : List Name) → length (filter (names_core ns) (range_with_len 0 8)) ≡ cores_named ns
unfolding cores_named names_core
cores_counted ns = ap length (filtered (names_core ns) (range_with_len 0 8) ∙ ap (λ (xs : List ℕ). select (names_core ns) xs) (range_below 8))
