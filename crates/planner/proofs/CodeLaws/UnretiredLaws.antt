-- The works taken in are those of the unretired transactions: a core's records are its committed ones, of which the first has home stores done,
-- then come its closed one and its running one.
use Rattle.model.proofs.Base.{ℕ, zero, suc, ◌+◌, ◌<◌, arith, ◌≡◌, refl, sym, ap, ap₂, ◌∙◌}
use Rattle.model.proofs.Base.{Bool, true, false, cond, List, [], ◌∷◌, ◌++◌, map, map-append, flat_map, below, length, length-map, get_or, eqb, ne_eqb, Bytes}
use mathlib.Core.List.{map-map}
use Rattle.model.specs.Card.{shape_of, tail_of, core_of}
use Rattle.model.specs.Checkpoint.{committed_of}
use Rattle.model.specs.declared.Core.{Core}
use Rattle.model.specs.declared.Card.{Card}
use Rattle.model.specs.declared.Committed.{Committed}
use Rattle.model.proofs.Lists.{length_below, mem_below, flat_map_same}
use Rattle.journal.specs.Records.{record_in, run_in, RunsTested}
use Rattle.journal.specs.Walk.{IsJournal}
use Rattle.cells.specs.Cells.{world}
use Rattle.oldest.specs.Oldest.{ReadNow}
use Rattle.oldest.proofs.OldestLaws.{card_bound}
use Rattle.std.specs.Prelude.{None, Some}
use Rattle.planner.specs.declared.Work.{Work}
use Rattle.planner.specs.Plan.{Unretired, committed_as, committed_ones, closed_as, running_as, unretired_of, unretired_now}
use Rattle.planner.specs.Works.{work_of, listed, homed_at, committed_work, committed_works, closed_work, running_work, uncommitted_works, core_works, works_to, RunsSized}
use Rattle.journal.specs.declared.extents.Extent.{Extent}

-- ---- committed ones by their place
ones_last : (h : ℕ) (es : List Committed) (e : Committed)
    → committed_ones h (es ++ (e ∷ [])) ≡ committed_ones h es ++ (committed_as (cond (eqb (length es) 0) h 0) e ∷ [])
unfolding committed_ones
ones_last h [] e = refl
ones_last h (f ∷ es) e =
    rw (ne_eqb (suc (length es)) 0 (omega arith)) (ap (λ (us : List Unretired). committed_as h f ∷ us) (map-append (committed_as 0) es (e ∷ [])))

ones_below : (k : Core) (f : ℕ → Committed) (n : ℕ) → committed_ones k.homed (map f (below n)) ≡ map (λ (j : ℕ). committed_as (homed_at k j) (f j)) (below n)
unfolding below homed_at
ones_below k f zero = (unfold committed_ones in refl)
ones_below k f (suc n) =
    ap (committed_ones k.homed) (map-append f (below n) (n ∷ []))
    ∙ ones_last k.homed (map f (below n)) (f n)
    ∙ ap₂ (λ (us : List Unretired) (i : ℕ). us ++ (committed_as (cond (eqb i 0) k.homed 0) (f n) ∷ [])) (ones_below k f n) (length-map (below n) f ∙ length_below n)
    ∙ sym (map-append (λ (j : ℕ). committed_as (homed_at k j) (f j)) (below n) (n ∷ []))

works_run : (x : Card) (xs : List Extent) (c a n : ℕ)
    → committed_works x xs c a n ≡ map work_of (committed_ones (core_of x c).homed (run_in xs c (tail_of x c).number a n))
unfolding committed_works committed_work run_in
works_run x xs c a n =
    let f : ℕ → Committed = λ j. record_in xs c ((tail_of x c).number + j) (a + j) in
    sym (map-map work_of (λ (j : ℕ). committed_as (homed_at (core_of x c) j) (f j)) (below n)) ∙ ap (map work_of) (sym (ones_below (core_of x c) f n))

-- ---- those of a core, and of all
listed_if : (b : Bool) (u : Unretired) → listed (cond b (Some (work_of u)) None) ≡ map work_of (cond b (u ∷ []) [])
unfolding listed work_of
listed_if true u = refl
listed_if false u = refl

works_flat : (f : ℕ → List Unretired) (cs : List ℕ) → flat_map (λ (c : ℕ). map work_of (f c)) cs ≡ map work_of (flat_map f cs)
unfolding flat_map
works_flat f [] = refl
works_flat f (c ∷ cs) = ap (λ (ks : List Work). map work_of (f c) ++ ks) (works_flat f cs) ∙ sym (map-append work_of (f c) (flat_map f cs))

module _ (x : Card) (d : Bytes) (xs : List Extent) (start count : List ℕ) (r : ReadNow x d xs start count) where
  pub read_sized : RunsSized x xs start count
  unfolding RunsSized RunsTested
  read_sized c h = record { few = r.reads.few c h; room = (r.tested c h).room; sized = λ j l. ((r.tested c h).each j l).few }

  module _ (m : Bytes) where
    run_committed : (c : ℕ) → c < (shape_of x).cores → run_in xs c (tail_of x c).number (get_or start c 0) (get_or count c 0) ≡ committed_of (world x d m) c
    unfolding IsJournal committed_of tail_of
    run_committed c h = r.reads.journals c h ∙ card_bound x d c h

    works_of : (c : ℕ) → c < (shape_of x).cores → core_works x xs c (get_or start c 0) (get_or count c 0) ≡ map work_of (unretired_of (world x d m) c)
    unfolding unretired_of core_works uncommitted_works closed_work running_work
    works_of c h =
        let k = core_of x c in
        let es = committed_ones k.homed (committed_of (world x d m) c) in
        let cs = cond k.closed.live (closed_as c k ∷ []) [] in
        let rs = cond k.running.live (running_as c k ∷ []) [] in
        let run : committed_works x xs c (get_or start c 0) (get_or count c 0) ≡ map work_of es =
        works_run x xs c (get_or start c 0) (get_or count c 0) ∙ ap (λ (es : List Committed). map work_of (committed_ones k.homed es)) (run_committed c h) in
        ap₂ (λ (ks js : List Work). ks ++ js) run
        (ap₂ (λ (ks js : List Work). ks ++ js) (listed_if k.closed.live (closed_as c k)) (listed_if k.running.live (running_as c k))
        ∙ sym (map-append work_of cs rs))
        ∙ sym (map-append work_of es (cs ++ rs))

    pub works_unretired : works_to x xs start count (shape_of x).cores ≡ map work_of (unretired_now (world x d m))
    unfolding unretired_now works_to
    works_unretired =
        flat_map_same (λ (c : ℕ). core_works x xs c (get_or start c 0) (get_or count c 0)) (λ (c : ℕ). map work_of (unretired_of (world x d m) c)) (below (shape_of x).cores)
        (λ c l. works_of c (mem_below (shape_of x).cores l))
        ∙ works_flat (unretired_of (world x d m)) (below (shape_of x).cores)
