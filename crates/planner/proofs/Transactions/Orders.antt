-- The order and the figures when one transaction is replaced: what a store, a close and a retirement leave of them. The stamps of the order ascend.
use Prim.Native.Nat.{ℕ, suc, ◌+◌, ◌≤◌, ◌<◌}
use native.Mathlib.Omega.{arith}
use mathlib.Core.Path.{◌≡◌, refl, sym, ap, ap₂, subst, ◌∙◌}
use mathlib.Core.Logic.{◌≢◌}
use mathlib.Core.Bool.{true, false, not}
use mathlib.Core.List.{List, [], ◌∷◌, ◌++◌, map, append_assoc, map-append, map-map}
use borrow.Author.Tests.{not-true}
use Rattle.model.specs.Lists.{all, select, total, sort_by, Each, Pairs}
use Rattle.model.specs.declared.Name.{Name}
use Rattle.model.proofs.Lists.{and_left, and_right}
use Rattle.model.proofs.Select.{select_append, select_in, select_out}
use Rattle.model.proofs.Each.{each_mem, each_so, each_left, each_right, each_select, each_map, pairs_append, pairs_map}
use Rattle.model.proofs.Totals.{total_append}
use Rattle.model.proofs.Sorting.{sort_map, sort_lowest, sort_highest, sort_each, sort_ascends}
use Rattle.planner.specs.Plan.{Unretired, most_for, most_commands, runs, in_order}
use Rattle.planner.proofs.Transactions.Replaced.{Replaced, Stamped, new_stamped, stamped_as, closed_from, order_from}

abbrev name_at : Stamped → Name
name_at s = s.name

abbrev stamp_at : Stamped → ℕ
stamp_at s = s.stamp

abbrev stamp_of : Unretired → ℕ
stamp_of u = u.stamp

-- those that do not run, and those that run
abbrev not_running : List Unretired → List Unretired
not_running us = select (λ (u : Unretired). not (runs u)) us

abbrev running_ones : List Unretired → List Unretired
running_ones us = select runs us

each_not_running : (P : Unretired → Type 0) (us : List Unretired) → Each (λ (u : Unretired). runs u ≡ false → P u) us → Each P (not_running us)
each_not_running P us a =
    each_select P (λ (u : Unretired). not (runs u)) us
    (each_so (λ (u : Unretired). runs u ≡ false → P u) (λ (u : Unretired). not (runs u) ≡ true → P u) us (λ u h k. h (not-true (runs u) k)) a)

-- a stamp that was given is at most n
abbrev Low : ℕ → Unretired → Type 0
Low n u = runs u ≡ false → u.stamp ≤ n

all_lower : (n m : ℕ) (us : List Unretired) → n < m → Each (Low n) us → Each (λ (u : Unretired). u.stamp < m) (not_running us)
all_lower n m us h a =
    each_not_running (λ (u : Unretired). u.stamp < m) us
    (each_so (Low n) (λ (u : Unretired). runs u ≡ false → u.stamp < m) us (λ u l k. omega (arith, l k)) a)

none_running : (us : List Unretired) → all (λ (u : Unretired). not (runs u)) us ≡ true → running_ones us ≡ []
unfolding all select
none_running [] h = refl
none_running (u ∷ us) h =
    let no : runs u ≡ false = not-true (runs u) (and_left (not (runs u)) (all (λ (v : Unretired). not (runs v)) us) h) in
    rw no (none_running us (and_right (not (runs u)) (all (λ (v : Unretired). not (runs v)) us) h))

-- ---- the figures
pub total_replaced : (f : Unretired → ℕ) {us vs bs : List Unretired} {a : Unretired} → Replaced us vs a bs
    → total f us + total f bs ≡ total f vs + f a
unfolding total
total_replaced f {us} {vs} {bs} {a} r =
    let xs = r.before in
    let ys = r.after in
    let t : total f us ≡ total f xs + (f a + total f ys) = ap (total f) r.was ∙ total_append f xs (a ∷ ys) in
    let v : total f vs ≡ total f xs + total f (bs ++ ys) = ap (total f) r.is ∙ total_append f xs (bs ++ ys) in
    omega (arith, total_append f bs ys)

-- so the bound stays where the count of blocks does, and falls by that of one that leaves
pub most_stays : {us vs : List Unretired} {a b : Unretired} → Replaced us vs a (b ∷ []) → b.count ≡ a.count
    → total most_commands us ≡ total most_commands vs
unfolding total most_commands
most_stays r e = omega (arith, total_replaced most_commands r)

pub most_falls : {us vs : List Unretired} {a : Unretired} → Replaced us vs a [] → total most_commands us ≡ most_for a.count + total most_commands vs
unfolding total most_commands
most_falls r = omega (arith, total_replaced most_commands r)

-- ---- the order by name
closed_names : (n : ℕ) (us : List Unretired) → map name_at (closed_from n us) ≡ map (λ (u : Unretired). u.name) us
unfolding closed_from
closed_names n [] = refl
closed_names n (u ∷ us) = ap (λ (l : List Name). u.name ∷ l) (closed_names (suc n) us)

pub order_names : (n : ℕ) (us : List Unretired) → map (λ (s : Stamped). s.name) (order_from n us) ≡ map (λ (u : Unretired). u.name) (in_order us)
unfolding order_from in_order
order_names n us =
    let s : List Unretired = sort_by stamp_of (not_running us) in
    map-append name_at (map stamped_as s) (closed_from n (running_ones us))
    ∙ ap₂ ◌++◌ (map-map name_at stamped_as s) (closed_names n (running_ones us))
    ∙ sym (map-append (λ (u : Unretired). u.name) s (running_ones us))

-- ---- the order when one is replaced
stamped_same : (u v : Unretired) → v.name ≡ u.name → v.stamp ≡ u.stamp → stamped_as u ≡ stamped_as v
stamped_same u v e k = ap₂ new_stamped (sym e) (sym k)

-- two orders are the same where the sorted ones are and those that will close
order_by : (n : ℕ) (us vs : List Unretired) → map stamped_as (not_running us) ≡ map stamped_as (not_running vs) → running_ones us ≡ running_ones vs
    → order_from n us ≡ order_from n vs
unfolding order_from
order_by n us vs e k =
    ap₂ ◌++◌ (sym (sort_map stamped_as stamp_at (not_running us)) ∙ ap (sort_by stamp_at) e ∙ sort_map stamped_as stamp_at (not_running vs)) (ap (closed_from n) k)

-- a store of a closed or a committed one, and a commit
pub order_stays : (n : ℕ) {us vs : List Unretired} {a b : Unretired} → Replaced us vs a (b ∷ []) → runs a ≡ false → runs b ≡ false
    → b.name ≡ a.name → b.stamp ≡ a.stamp → order_from n us ≡ order_from n vs
order_stays n {us} {vs} {a} {b} r ra rb e k =
    let xs = r.before in
    let ys = r.after in
    ap (order_from n) r.was
    ∙ order_by n (xs ++ (a ∷ ys)) (xs ++ (b ∷ ys))
    (ap (map stamped_as) (select_in (λ (u : Unretired). not (runs u)) xs ys a (ap not ra))
    ∙ map-append stamped_as (not_running xs) (a ∷ not_running ys)
    ∙ ap (λ (s : Stamped). map stamped_as (not_running xs) ++ (s ∷ map stamped_as (not_running ys))) (stamped_same a b e k)
    ∙ sym (map-append stamped_as (not_running xs) (b ∷ not_running ys))
    ∙ ap (map stamped_as) (sym (select_in (λ (u : Unretired). not (runs u)) xs ys b (ap not rb))))
    (select_out runs xs ys a ra ∙ sym (select_out runs xs ys b rb))
    ∙ ap (order_from n) (sym r.is)

-- a close, in order of core
pub order_closes : (n : ℕ) {us vs : List Unretired} {a b : Unretired} (r : Replaced us vs a (b ∷ [])) → runs a ≡ true → runs b ≡ false
    → b.name ≡ a.name → b.stamp ≡ suc n → Each (λ (u : Unretired). runs u ≡ false → u.stamp ≤ n) us
    → all (λ (u : Unretired). not (runs u)) r.before ≡ true → order_from n us ≡ order_from (suc n) vs
unfolding order_from closed_from
order_closes n {us} {vs} {a} {b} r ra rb e k low first =
    let xs = r.before in
    let ys = r.after in
    let sx = not_running xs in
    let sy = not_running ys in
    let here : Each (Low n) (xs ++ (a ∷ ys)) = subst (Each (Low n)) r.was low in
    let lx : Each (λ (u : Unretired). u.stamp < b.stamp) sx = all_lower n b.stamp xs (omega arith) (each_left (Low n) xs (a ∷ ys) here) in
    let ly : Each (λ (u : Unretired). u.stamp < b.stamp) sy = all_lower n b.stamp ys (omega arith) (each_right (Low n) xs (a ∷ ys) here).1 in
    let none : running_ones xs ≡ [] = none_running xs first in
    let s = sort_by stamp_of (sx ++ sy) in
    let rest = closed_from (suc n) (running_ones ys) in
    let was_running : running_ones (xs ++ (a ∷ ys)) ≡ a ∷ running_ones ys =
    select_in runs xs ys a ra ∙ ap (λ (l : List Unretired). l ++ (a ∷ running_ones ys)) none in
    let is_running : running_ones (xs ++ (b ∷ ys)) ≡ running_ones ys =
    select_out runs xs ys b rb ∙ ap (λ (l : List Unretired). l ++ running_ones ys) none in
    ap (order_from n) r.was
    ∙ ap₂ (λ (l m : List Unretired). map stamped_as (sort_by stamp_of l) ++ closed_from n m)
    (select_out (λ (u : Unretired). not (runs u)) xs ys a (ap not ra)) was_running
    ∙ ap₂ (λ (t : Name) (i : ℕ). map stamped_as s ++ (new_stamped t i ∷ rest)) (sym e) (sym k)
    ∙ sym (append_assoc (map stamped_as s) (stamped_as b ∷ []) rest)
    ∙ ap (λ (l : List Stamped). l ++ rest) (sym (map-append stamped_as s (b ∷ [])))
    ∙ ap (λ (l : List Unretired). map stamped_as l ++ rest) (sym (sort_highest stamp_of b sx sy lx ly))
    ∙ ap₂ (λ (l m : List Unretired). map stamped_as (sort_by stamp_of l) ++ closed_from (suc n) m)
    (sym (select_in (λ (u : Unretired). not (runs u)) xs ys b (ap not rb))) (sym is_running)
    ∙ ap (order_from (suc n)) (sym r.is)

-- a retirement, the lowest stamp first
pub order_retires : (n : ℕ) {us vs : List Unretired} {a : Unretired} (r : Replaced us vs a []) → runs a ≡ false
    → Each (λ (u : Unretired). runs u ≡ false → a.stamp < u.stamp) (r.before ++ r.after) → order_from n us ≡ stamped_as a ∷ order_from n vs
unfolding order_from
order_retires n {us} {vs} {a} r ra high =
    let xs = r.before in
    let ys = r.after in
    let Above : Unretired → Type 0 = λ u. a.stamp < u.stamp in
    let hx = each_not_running Above xs (each_left (λ (u : Unretired). runs u ≡ false → Above u) xs ys high) in
    let hy = each_not_running Above ys (each_right (λ (u : Unretired). runs u ≡ false → Above u) xs ys high) in
    ap (order_from n) r.was
    ∙ ap₂ (λ (l m : List Unretired). map stamped_as (sort_by stamp_of l) ++ closed_from n m)
    (select_in (λ (u : Unretired). not (runs u)) xs ys a (ap not ra)) (select_out runs xs ys a ra)
    ∙ ap (λ (l : List Unretired). map stamped_as l ++ closed_from n (running_ones xs ++ running_ones ys))
    (sort_lowest stamp_of a (not_running xs) (not_running ys) hx hy)
    ∙ ap₂ (λ (l m : List Unretired). stamped_as a ∷ (map stamped_as (sort_by stamp_of l) ++ closed_from n m))
    (sym (select_append (λ (u : Unretired). not (runs u)) xs ys)) (sym (select_append runs xs ys))
    ∙ ap (λ (l : List Unretired). stamped_as a ∷ order_from n l) (sym r.is)

-- ---- the stamps of the order ascend
closed_above : (n m : ℕ) (us : List Unretired) → m ≤ n → Each (λ (i : ℕ). m < i) (map stamp_at (closed_from n us))
unfolding closed_from
closed_above n m [] h = tt
closed_above n m (u ∷ us) h = (omega arith, closed_above (suc n) m us (omega arith))

closed_ascends : (n : ℕ) (us : List Unretired) → Pairs ◌<◌ (map stamp_at (closed_from n us))
unfolding closed_from
closed_ascends n [] = tt
closed_ascends n (u ∷ us) = (closed_above (suc n) (suc n) us (omega arith), closed_ascends (suc n) us)

pub order_ascends : (n : ℕ) (us : List Unretired) → Pairs (λ (u v : Unretired). u.stamp ≢ v.stamp) (select (λ (u : Unretired). not (runs u)) us)
    → Each (λ (u : Unretired). runs u ≡ false → u.stamp ≤ n) us → Pairs ◌<◌ (map (λ (s : Stamped). s.stamp) (order_from n us))
unfolding order_from
order_ascends n us d low =
    let s : List Unretired = sort_by stamp_of (not_running us) in
    let c : List Stamped = closed_from n (running_ones us) in
    let e : map stamp_at (map stamped_as s ++ c) ≡ map stamp_of s ++ map stamp_at c =
    map-append stamp_at (map stamped_as s) c ∙ ap (λ (l : List ℕ). l ++ map stamp_at c) (map-map stamp_at stamped_as s) in
    let low₂ : Each (λ (i : ℕ). i ≤ n) (map stamp_of s) =
    each_map (λ (i : ℕ). i ≤ n) stamp_of s
    (sort_each stamp_of (λ (u : Unretired). u.stamp ≤ n) (not_running us) (each_not_running (λ (u : Unretired). u.stamp ≤ n) us low)) in
    let high : Each (λ (i : ℕ). n < i) (map stamp_at c) = closed_above n n (running_ones us) (omega arith) in
    subst (Pairs ◌<◌) (sym e)
    (
    pairs_append ◌<◌ (map stamp_of s) (map stamp_at c) (pairs_map ◌<◌ stamp_of s (sort_ascends stamp_of (not_running us) d)) (closed_ascends n (running_ones us))
    (λ i j p q. omega (arith, each_mem (λ (i : ℕ). i ≤ n) low₂ p, each_mem (λ (i : ℕ). n < i) high q))
    )
