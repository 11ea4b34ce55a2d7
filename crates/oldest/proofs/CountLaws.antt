-- How many transactions of a core are committed: none, or the numbers between its tail and its next, less the closed one. The
-- counts of all cores; the records read are those that the card counts, and the first of a core is the one at its tail.
use Rattle.model.proofs.Base.{ℕ, zero, suc, ◌+◌, ◌-◌, ◌≤◌, ◌<◌, min, arith, add-zero, ◌≡◌, refl, sym, ap, ◌∙◌, Bool, true, false, cond, List, []}
use Rattle.model.proofs.Base.{◌∷◌, ◌++◌, map, map-append, get_or, set, get_or-take, eqb, eq-eqb, ne_eqb, below, Bytes}
use Rattle.model.specs.Card.{shape_of, tail_of, core_of, committed_count}
use Rattle.model.specs.Journal.{record_at, records_from, journal}
use Rattle.model.specs.declared.Shape.{Shape}
use Rattle.model.specs.declared.Tail.{Tail}
use Rattle.model.specs.declared.Card.{Card}
use Rattle.model.specs.declared.CommitLayout.TheVariants.{Numbers}
use Rattle.model.specs.declared.Committed.{Committed}
use Rattle.std.specs.Prelude.{Option, Some, None}
use Rattle.model.proofs.Lists.{get_or_map_below}
use Rattle.model.proofs.OneStore.{shape_limits}
use Rattle.model.proofs.Journal.{found_cases}
use Rattle.layout.proofs.Loops.{Filled, filled_more}
use Rattle.journal.specs.declared.extents.Extent.{Extent}
use Rattle.journal.specs.Records.{tail_for, committed_in, extent_at, record_in, run_in, RunsTested}
use Rattle.journal.specs.Walk.{IsJournal, Reads}
use Rattle.journal.proofs.Tested.{reads_low}
use Rattle.cells.specs.Cells.{number_in, transaction_in, card_in, core_place, closed_place}
use Rattle.cells.proofs.ReadLaws.{next_there, closed_live}
use Rattle.oldest.specs.Oldest.{count_at, counts, Counts, ReadNow, oldest_in, oldest_at}
use Rattle.oldest.proofs.CardLaws.{shape_range, core_low}

-- ---- one count
module _ (w : List ℕ) (c : ℕ) (h : c < 8) (p : ℕ) (e : p ≡ core_place c) (next : ℕ) (n : next ≡ number_in w p) (t : Tail) (q : t ≡ tail_of (card_in w) c) where
  next_here : next ≡ (core_of (card_in w) c).next
  next_here = next_there w c h p e next n

  tail_here : t.number ≡ (tail_of (card_in w) c).number
  tail_here = ap (λ (a : Tail). a.number) q

  pub count_none : next ≤ t.number → 0 ≡ count_at (card_in w) c
  unfolding count_at committed_count
  count_none l = omega (arith, next_here, tail_here)

  module _ (b : ℕ) (i : b ≡ closed_place c) (g : Bool) (j : g ≡ (transaction_in w b).live) (r : ℕ) where
    closed_here : g ≡ (core_of (card_in w) c).closed.live
    closed_here = closed_live w c h b i g j

    pub count_closed : g ≡ true → r ≡ min (next - t.number - 1) 12 → r ≡ count_at (card_in w) c
    unfolding count_at committed_count
    count_closed k z =
        let y : ◌≡◌ {A = ℕ} (cond (core_of (card_in w) c).closed.live 1 0) 1 = rw (← closed_here, k) in
        omega (arith, next_here, tail_here)

    pub count_open : g ≡ false → r ≡ min (next - t.number) 12 → r ≡ count_at (card_in w) c
    unfolding count_at committed_count
    count_open k z =
        let y : ◌≡◌ {A = ℕ} (cond (core_of (card_in w) c).closed.live 1 0) 0 = rw (← closed_here, k) in
        omega (arith, next_here, tail_here)

-- ---- all of them
pub few_cores : (x : Card) (s : Shape) → s ≡ shape_of x → s.cores ≤ 8
few_cores x s e = (shape_range x s e).few_cores

pub count_made : (x : Card) (s : Shape) (c : ℕ) (out : List ℕ) (r : ℕ) → Filled (count_at x) 8 out c → r ≡ count_at x c → c < s.cores → s.cores ≤ 8
    → Filled (count_at x) 8 (set out c r) (c + 1)
count_made x s c out r w e l m = filled_more (count_at x) 8 out c r w e (omega arith)

pub all_counts : (x : Card) (s : Shape) → s ≡ shape_of x → (out : List ℕ) (i : ℕ) → Filled (count_at x) 8 out i → s.cores ≤ i → Counts x out
unfolding Counts
all_counts x s p out i w h c l =
    let g : c < s.cores = rw (← p) at l in
    let k : c < i = omega arith in
    sym (get_or-take i out c 0 k) ∙ ap (λ (xs : List ℕ). get_or xs c 0) w.same ∙ get_or_map_below (count_at x) i c 0 k

pub count_in : (x : Card) (c : ℕ) → c < 8 → get_or (counts x) c 0 ≡ count_at x c
unfolding counts
count_in x c h = get_or_map_below (count_at x) 8 c 0 h

-- ---- read
module _ (x : Card) (d : Bytes) (s : Shape) (p : s ≡ shape_of x) (ts : List Tail) (y : ts ≡ x.tails) (most : List ℕ) (q : Counts x most) (xs : List Extent) (start count : List ℕ) where
  reads_card : Reads Numbers s d ts most xs start count → Reads Numbers (shape_of x) d x.tails (counts x) xs start count
  unfolding Counts IsJournal
  reads_card r =
      let r' : Reads Numbers (shape_of x) d x.tails most xs start count = rw (p, y) at r in
      record {
        journals =
            λ c h.
            let e : get_or most c 0 ≡ get_or (counts x) c 0 = q c h ∙ sym (count_in x c (core_low x c h)) in
            r'.journals c h ∙ ap (λ (n : ℕ). journal Numbers (shape_of x) d c (tail_for x.tails c) n) e;
        behind = r'.behind;
        few = r'.few;
      }

  pub read_now : Reads Numbers s d ts most xs start count → RunsTested s d xs start count → ReadNow x d xs start count
  read_now r t = record { reads = reads_card r; tested = rw p at t }

pub read_tested : (x : Card) (s : Shape) → s ≡ shape_of x → (d : Bytes) (xs : List Extent) (start count : List ℕ) → ReadNow x d xs start count → RunsTested s d xs start count
read_tested x s e d xs start count r = rw e r.tested

-- ---- the oldest
-- the first of a list
unfoldable head_of : List Committed → Option Committed
head_of [] = None
head_of (e ∷ es) = Some e

head_append : (es fs : List Committed) (e : Committed) → head_of es ≡ Some e → head_of (es ++ fs) ≡ Some e
unfolding head_of
head_append [] fs e h = let z : ◌≡◌ {A = ℕ} 0 1 = cc in absurd (omega arith)
head_append (x ∷ es) fs e h = h

head_map : (f : ℕ → Committed) (n : ℕ) → head_of (map f (below (suc n))) ≡ Some (f 0)
unfolding head_of below
head_map f zero = refl
head_map f (suc n) = rw (map-append) (head_append (map f (below (suc n))) (f (suc n) ∷ []) (f 0) (head_map f n))

first_run : (xs : List Extent) (c k a n : ℕ) → head_of (run_in xs c k a n) ≡ cond (eqb n 0) None (Some (record_in xs c k a))
unfolding head_of run_in below
first_run xs c k a zero = refl
first_run xs c k a (suc n) = rw (ne_eqb (suc n) 0 (omega arith)) (head_map (λ (j : ℕ). record_in xs c (k + j) (a + j)) n ∙ rw (add-zero k, add-zero a))

first_record : (s : Shape) (d : Bytes) (c : ℕ) (t : Tail) (most : ℕ)
    → head_of (journal Numbers s d c t most) ≡ cond (eqb most 0) None (record_at Numbers s d c t.number t.position s.journal)
unfolding head_of journal records_from
first_record s d c t zero = refl
first_record s d c t (suc n) =
    found_cases (record_at Numbers s d c t.number t.position s.journal)
    (λ m. rw (m, records_from, ne_eqb (suc n) 0 (omega arith)))
    (λ e w. rw (w, records_from, ne_eqb (suc n) 0 (omega arith)))

module _ (x : Card) (xs : List Extent) (start count : List ℕ) (c : ℕ) where
  pub none_counted : get_or count c 0 ≡ 0 → None ≡ oldest_in x xs start count c
  unfolding oldest_in
  none_counted h = rw (eq-eqb (get_or count c 0) 0 h)

  pub first_counted : (get_or count c 0 ≡ 0 → ⊥) → (t : Tail) → t ≡ tail_of x c → (a : ℕ) → a ≡ get_or start c 0 → (e : Committed) → e ≡ committed_in c t.number (extent_at xs a)
      → Some e ≡ oldest_in x xs start count c
  unfolding oldest_in record_in
  first_counted h t q a b e p = rw (ne_eqb (get_or count c 0) 0 h, p, q, b)

  module _ (d : Bytes) (r : ReadNow x d xs start count) (h : c < (shape_of x).cores) where
    -- the first record of a core is the one at its tail
    pub oldest_same : oldest_in x xs start count c ≡ oldest_at x d c
    unfolding oldest_in oldest_at IsJournal tail_of
    oldest_same =
        sym (first_run xs c (tail_of x c).number (get_or start c 0) (get_or count c 0))
        ∙ ap head_of (r.reads.journals c h)
        ∙ first_record (shape_of x) d c (tail_of x c) (get_or (counts x) c 0)
        ∙ rw (count_in x c (core_low x c h))

    pub start_low : get_or start c 0 < 96
    start_low = omega (arith, reads_low Numbers (shape_of x) d x.tails (counts x) xs start count r.reads (shape_limits x) c h)
