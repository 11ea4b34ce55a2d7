-- CHECKPOINT and RETIRE of a card that is up lower the figure by one each; CHECKPOINT leaves the order, and RETIRE of a transaction
-- that no other comes before takes its first.
use Prim.Native.Nat.{ℕ, suc, ◌<◌, ◌≤◌}
use native.Mathlib.Omega.{arith}
use mathlib.Core.Path.{◌≡◌, refl, sym, ap, ap₂, ◌∙◌, subst}
use mathlib.Core.Logic.{◌≢◌}
use mathlib.Core.List.{List, [], ◌∷◌, ◌++◌, map, Memᴰ}
use mathlib.Core.Bool.{Bool, true, false, not}
use lib.Dec.{ltb}
use lib.ListN.{length}
use borrow.Author.Tests.{ne_eqb, ltb-true, ltb-false}
use Rattle.model.specs.Lists.{Each, Pairs, select, total}
use Rattle.model.specs.Card.{tail_of}
use Rattle.model.specs.Command.{World}
use Rattle.model.specs.Checkpoint.{checkpointed, retired_oldest, committed_of, oldest}
use Rattle.model.specs.Step.{done_by, step}
use Rattle.model.specs.Tape.{CHECKPOINT, RETIRE}
use Rattle.model.specs.declared.Name.{Name}
use Rattle.model.specs.declared.Committed.{Committed}
use Rattle.model.proofs.Base.{ℕ_discrete}
use Rattle.model.proofs.Each.{each_mem, each_left, each_right}
use Rattle.model.proofs.Lists.{mem_each, each_append}
use Rattle.model.proofs.Select.{select_append, select_in, mem_select}
use Rattle.model.proofs.Sorting.{Differ}
use Rattle.crash.specs.Book.{Book, committed, checkpoint_book, retire_book}
use Rattle.crash.specs.Ledger.{Ledger, with_book, home_left}
use Rattle.crash.proofs.Books.BookEntries.{oldest_name, raise_at}
use Rattle.crash.proofs.Books.BookSteps.{retire_restages}
use Rattle.crash.proofs.Commands.CardCheckpoint.{checkpointed_bytes, retired_bytes}
use Rattle.crash.proofs.Runs.UpSteps.{RelatedUp, less_home, all_home, checkpoint_at, retire_at}
use Rattle.crash.proofs.Runs.Unrefused.{MayCheckpoint}
use Rattle.planner.specs.Plan.{Unretired, runs}
use Rattle.planner.specs.Emptying.{retired_by}
use Rattle.planner.proofs.Transactions.Replaced.{Replaced, Stamped, new_stamped, stamped_as, order_from}
use Rattle.planner.proofs.Transactions.Orders.{order_stays, order_retires, most_stays, most_falls}
use Rattle.planner.proofs.Transactions.LedgerList.{entry_as, ledger_list}
use Rattle.planner.proofs.Transactions.ListSteps.{Lowered, checkpoint_lowered, retire_lowered, home_list, retire_list}
use Rattle.planner.proofs.Doing.OldestOnes.{oldest_at}
use Rattle.planner.proofs.Doing.RunLaws.{with_stamp}
use Rattle.planner.proofs.Doing.Answered.{when_done}
use Rattle.planner.proofs.Doing.Lowering.{LoweredTo, ChosenTo}

-- of distinct stamps, one that is no higher than the others is lower
apart_from : (key : Unretired → ℕ) (xs ys : List Unretired) (a : Unretired) → Pairs (Differ key) (xs ++ (a ∷ ys)) → Each (λ (v : Unretired). key a ≢ key v) (xs ++ ys)
apart_from key [] ys a d = d.0
apart_from key (x ∷ xs) ys a d =
    (λ e. each_mem (λ (v : Unretired). key x ≢ key v) d.0 (mathlib.Core.List.Memᴰ.append_right xs (mathlib.Core.List.Memᴰ.head refl)) (sym e), apart_from key xs ys a d.1)

abbrev idle : Unretired → Bool
idle v = not (runs v)

lowest_apart : {us vs : List Unretired} {a : Unretired} (r : Replaced us vs a []) → runs a ≡ false → Each (λ (v : Unretired). runs v ≡ false → a.stamp ≤ v.stamp) us
    → Pairs (Differ (λ (v : Unretired). v.stamp)) (select idle us) → Each (λ (v : Unretired). runs v ≡ false → a.stamp < v.stamp) (r.before ++ r.after)
lowest_apart {us} {vs} {a} r i low d =
    let xs = r.before in
    let ys = r.after in
    let e : select idle us ≡ select idle xs ++ (a ∷ select idle ys) = ap (select idle) r.was ∙ select_in idle xs ys a (ap not i) in
    let apart = apart_from (λ (v : Unretired). v.stamp) (select idle xs) (select idle ys) a (subst (Pairs (Differ (λ (v : Unretired). v.stamp))) e d) in
    let NotBelow : Unretired → Type 0 = λ v. runs v ≡ false → a.stamp ≤ v.stamp in
    let here : Each NotBelow (xs ++ (a ∷ ys)) = subst (Each NotBelow) r.was low in
    let low₂ : Each NotBelow (xs ++ ys) = each_append NotBelow xs ys (each_left NotBelow xs (a ∷ ys) here) (each_right NotBelow xs (a ∷ ys) here).1 in
    mem_each (λ (v : Unretired). runs v ≡ false → a.stamp < v.stamp) (xs ++ ys)
    (λ v m h.
    let p : Memᴰ v (select idle xs ++ select idle ys) = subst (Memᴰ v) (select_append idle xs ys) (mem_select idle (xs ++ ys) v m (ap not h)) in
    let q : a.stamp ≢ v.stamp = each_mem (λ (x : Unretired). a.stamp ≢ x.stamp) apart p in
    let le : a.stamp ≤ v.stamp = each_mem NotBelow low₂ m h in
    elim (ℕ_discrete a.stamp v.stamp) [ yes z ↦ absurd (q z) | no n ↦ omega arith ])

module _ {l : Ledger} {w : World} (u : RelatedUp l w) (c : ℕ) (m : MayCheckpoint l c) where
  abbrev k : Book
  k = l.book

  abbrev t : Name
  t = oldest_name c k

  abbrev first : (n : ℕ) × ((k.entry t).stage ≡ committed n) × (n ≤ length (k.entry t).blocks)
  first = (u.up.well_formed.ranks c m.in_range_lem).first m.some_committed

  -- ---- CHECKPOINT: a home store
  module _ (left : home_left c k ≡ true) where
    abbrev l₁ : Ledger
    l₁ = with_book l (checkpoint_book c k)

    checkpoint_to : LoweredTo l (checkpointed c w)
    checkpoint_to =
        record {
          next = l₁;
          related = checkpoint_at u c m.in_range_lem m.some_committed m.valid m.none_shared left;
          lowered =
              subst (Lowered (ledger_list l) (ledger_list l₁))
              (sym (checkpointed_bytes u.up c m.in_range_lem m.some_committed (less_home u c m.in_range_lem m.some_committed m.valid m.none_shared left)).1)
              (checkpoint_lowered u.up.well_formed c m.in_range_lem m.some_committed left);
        }

    pub checkpoint_lowers : (step (CHECKPOINT c) w).answer ≡ 0 → LoweredTo l (step (CHECKPOINT c) w)
    unfolding done_by
    checkpoint_lowers h = when_done (LoweredTo l) (CHECKPOINT c) w h checkpoint_to

    home_chosen : ChosenTo l (CHECKPOINT c) w (checkpointed c w)
    unfolding checkpoint_to total retired_by
    home_chosen =
        let z : ltb first.0 (length (k.entry t).blocks) ≡ true = rw first.1 at left in
        let a = home_list u.up.well_formed c m.in_range_lem m.some_committed first.1 (ltb-true _ _ z) in
        record {
          to = checkpoint_to;
          order = order_stays l.closes a.replaced a.closed_before a.closed_after a.name a.stamp;
          most = omega (arith, most_stays a.replaced a.count);
        }

    pub checkpoint_chosen : (step (CHECKPOINT c) w).answer ≡ 0 → ChosenTo l (CHECKPOINT c) w (step (CHECKPOINT c) w)
    unfolding done_by
    checkpoint_chosen h = when_done (ChosenTo l (CHECKPOINT c) w) (CHECKPOINT c) w h home_chosen

  -- ---- RETIRE: the master store
  module _ (done : home_left c k ≡ false) where
    abbrev l₂ : Ledger
    l₂ = with_book l (retire_book c k)

    related_after : RelatedUp l₂ (retired_oldest c w).world
    related_after = retire_at u c m.in_range_lem m.some_committed m.valid m.none_shared done

    retire_to : LoweredTo l (retired_oldest c w)
    retire_to =
        record {
          next = l₂;
          related = related_after;
          lowered =
              subst (Lowered (ledger_list l) (ledger_list l₂))
              (sym (retired_bytes u.up c m.in_range_lem m.some_committed (all_home u c m.in_range_lem m.some_committed m.valid m.none_shared done)).1)
              (retire_lowered u.up.well_formed c m.in_range_lem m.some_committed done);
        }

    pub retire_lowers : (step (RETIRE c) w).answer ≡ 0 → LoweredTo l (step (RETIRE c) w)
    unfolding done_by
    retire_lowers h = when_done (LoweredTo l) (RETIRE c) w h retire_to

    -- the tails tell that it was retired
    tail_before : (tail_of w.card c).number ≡ k.oldest c
    tail_before = (u.up.disk.journals c m.in_range_lem).number

    tail_after : (tail_of (retired_oldest c w).world.card c).number ≡ suc (k.oldest c)
    tail_after =
        (related_after.up.disk.journals c m.in_range_lem).number
        ∙ ap (λ (b : Book). b.oldest c) (retire_restages c first.0 k) ∙ raise_at c k.oldest

    one_retired : retired_by (RETIRE c) w (retired_oldest c w).world ≡ oldest (committed_of w c) ∷ []
    unfolding retired_by
    one_retired =
        let differ : (tail_of (retired_oldest c w).world.card c).number ≢ (tail_of w.card c).number = λ z. omega (arith, tail_after, tail_before, z) in
        rw (ne_eqb (tail_of (retired_oldest c w).world.card c).number (tail_of w.card c).number differ) refl

    entry_stamp : (entry_as l t).stamp ≡ l.stamp t
    unfolding entry_as
    entry_stamp = rw first.1 refl

    retired_stamped : with_stamp (oldest (committed_of w c)) ≡ stamped_as (entry_as l t)
    unfolding entry_as
    retired_stamped = let o = oldest_at u.up c m.in_range_lem m.some_committed in ap₂ new_stamped o.name (o.stamp ∙ sym entry_stamp)

    entry_count : (oldest (committed_of w c)).count ≡ (entry_as l t).count
    unfolding entry_as
    entry_count = (oldest_at u.up c m.in_range_lem m.some_committed).count

    -- chosen: no stamp is lower, and no two are the same
    module _ (low : Each (λ (v : Unretired). runs v ≡ false → l.stamp t ≤ v.stamp) (ledger_list l))
        (apart : Pairs (Differ (λ (v : Unretired). v.stamp)) (select (λ (v : Unretired). not (runs v)) (ledger_list l))) where
      retire_first : ChosenTo l (RETIRE c) w (retired_oldest c w)
      unfolding retire_to total
      retire_first =
          let z : ltb first.0 (length (k.entry t).blocks) ≡ false = rw first.1 at done in
          let a = retire_list u.up.well_formed c m.in_range_lem m.some_committed first.1 (omega (arith, ltb-false first.0 (length (k.entry t).blocks) z, first.2)) in
          let low₂ = subst (λ (x : ℕ). Each (λ (v : Unretired). runs v ≡ false → x ≤ v.stamp) (ledger_list l)) (sym entry_stamp) low in
          record {
            to = retire_to;
            order =
                order_retires l.closes a.replaced a.closed_before (lowest_apart a.replaced a.closed_before low₂ apart)
                ∙ ap (λ (x : Stamped). x ∷ order_from l.closes (ledger_list l₂)) (sym retired_stamped)
                ∙ ap (λ (es : List Committed). map with_stamp es ++ order_from l.closes (ledger_list l₂)) (sym one_retired);
            most = rw one_retired (omega (arith, most_falls a.replaced, entry_count));
          }

      pub retire_chosen : (step (RETIRE c) w).answer ≡ 0 → ChosenTo l (RETIRE c) w (step (RETIRE c) w)
      unfolding done_by
      retire_chosen h = when_done (ChosenTo l (RETIRE c) w) (RETIRE c) w h retire_first
