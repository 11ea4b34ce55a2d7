-- How the journals are read. Of one journal, what was put in and what the walk has yet to read are its records; core by core they stand one
-- behind the other, and all of them have passed the range test.
use Rattle.model.proofs.Base.{ℕ, suc, ◌+◌, ◌-◌, ◌*◌, ◌≤◌, ◌<◌, arith, dec_lt, add-one, ◌≡◌, refl, sym, ap, ap₂, subst, ◌∙◌, List, []}
use Rattle.model.proofs.Base.{◌∷◌, ◌++◌, map-append, append_assoc, append-nil, length, length-map, get_or, set, length-set, get_or-set_same, get_or-set_other, below, Bytes}
use Rattle.model.specs.Lists.{total}
use Rattle.model.specs.Limits.{max_number}
use Rattle.model.specs.Journal.{records_from, journal, journals}
use Rattle.model.specs.JournalEnds.{read_record}
use Rattle.model.specs.declared.Shape.{Shape}
use Rattle.model.specs.declared.Tail.{Tail}
use Rattle.model.specs.declared.CommitLayout.{CommitLayout}
use Rattle.model.specs.declared.Committed.{Committed}
use Rattle.std.specs.Prelude.{Result, Ok, Err}
use Rattle.model.specs.declared.JournalEnd.{JournalEnd}
use Rattle.model.proofs.Lists.{map_below, mem_below, mem_each, length_below, flat_map_below, get_or_map_below}
use Rattle.model.proofs.Totals.{total_last, total_same}
use Rattle.model.proofs.JournalEnds.{found_by, found_as, read_whole}
use Rattle.model.proofs.Journal.{KnownRecord, descriptor_number, record_known, no_room, records_hit, records_miss}
use Rattle.model.proofs.Limits.{InRange}
use Rattle.journal.specs.declared.walk.Walk.{Walk}
use Rattle.journal.specs.declared.extents.Extent.{Extent}
use Rattle.journal.specs.Records.{tail_for, numbers_of, extent_of, no_extent, extent_at, record_in, run_in, records_in, RunsTested}
use Rattle.journal.specs.Walk.{walk_from, past, IsJournal, SameTo, JournalRead, Behind, Reads}
use Rattle.journal.proofs.Tested.{total_few, reads_tested}

-- ---- a record just read
module _ (y : CommitLayout) (s : Shape) (d : Bytes) (c k p left : ℕ) (r : Result Committed JournalEnd) (e : r ≡ read_record y s d c k p left) (x : Committed) (z : r ≡ Ok x) where
  hit_known : KnownRecord y s d c k x × (x.position ≡ p) × (x.count + 2 ≤ left)
  hit_known = record_known y s d c k p left x (read_whole y s d c k p left x (sym e ∙ z))

  pub hit_fits : x.count + 2 ≤ left
  hit_fits = hit_known.2

  pub hit_number : k ≤ max_number
  hit_number = descriptor_number s k _ hit_known.0.descriptor

-- ---- the records of one core
-- those before a place hang on what stands before it
pub run_same : (xs ys : List Extent) (b : ℕ) → SameTo b xs ys → (c k a n : ℕ) → a + n ≤ b → run_in ys c k a n ≡ run_in xs c k a n
unfolding run_in record_in SameTo
run_same xs ys b p c k a n h =
    map_below (λ (j : ℕ). record_in ys c (k + j) (a + j)) (λ (j : ℕ). record_in xs c (k + j) (a + j)) n (λ j l. rw (p (a + j) (omega arith)))

pub run_length : (xs : List Extent) (c k a n : ℕ) → length (run_in xs c k a n) ≡ n
unfolding run_in
run_length xs c k a n = length-map (below n) (λ (j : ℕ). record_in xs c (k + j) (a + j)) ∙ length_below n

run_more : (xs : List Extent) (c k a n : ℕ) → run_in xs c k a (n + 1) ≡ run_in xs c k a n ++ (record_in xs c (k + n) (a + n) ∷ [])
unfolding run_in below
run_more xs c k a n = rw (add-one, below, map-append)

set_same : (xs : List Extent) (i b : ℕ) (x : Extent) → b ≤ i → SameTo b xs (set xs i x)
unfolding SameTo
set_same xs i b x h j l = get_or-set_other xs i j x no_extent (omega arith)

same_trans : (b : ℕ) (xs ys zs : List Extent) → SameTo b xs ys → SameTo b ys zs → SameTo b xs zs
unfolding SameTo
same_trans b xs ys zs p q i h = q i h ∙ p i h

same_self : (b : ℕ) (xs : List Extent) → SameTo b xs xs
unfolding SameTo
same_self b xs i h = refl

module _ (y : CommitLayout) (s : Shape) (d : Bytes) (c : ℕ) (t : Tail) (most a : ℕ) (xs : List Extent) where
  abbrev rest : ℕ → Walk → List Committed
  rest n w = records_from n y s d c w.number w.at w.left

  -- n were put in from place a on, and the walk stands behind them
  pub record ReadTo (ys : List Extent) (w : Walk) (n : ℕ) : Type 0 where
    pub number : w.number ≡ t.number + n
    pub left : 2 * n + w.left ≤ s.journal
    pub same : run_in ys c t.number a n ++ rest (most - n) w ≡ journal y s d c t most
    pub extents : SameTo a xs ys
    pub long : length ys ≡ 96

  pub read_none : (w : Walk) → w ≡ walk_from s t → length xs ≡ 96 → ReadTo xs w 0
  unfolding run_in below journal
  read_none w o g =
      record {
        number = rw o (omega arith);
        left = rw o (omega arith);
        same = let z : most - 0 ≡ most = omega arith in rw (o, z) refl;
        extents = same_self a xs;
        long = g;
      }

  -- ---- one record more
  module _ (l : InRange s) (ys : List Extent) (w : Walk) (n : ℕ) (b : ReadTo ys w n) (r : Result Committed JournalEnd)
      (e : r ≡ read_record y s d c w.number w.at w.left) (x : Committed) (z : r ≡ Ok x) where
    pub read_few : n < 12
    read_few = omega (arith, l.short, b.left, hit_fits y s d c w.number w.at w.left r e x z)

    pub read_place : a ≤ 84 → a + n < 96
    read_place m = omega (arith, m, read_few)

    pub read_more : a ≤ 84 → n < most → (q : Extent) → q ≡ extent_of x → (u : Walk) → u ≡ past s w x → ReadTo (set ys (a + n) q) u (n + 1)
    unfolding record_in
    read_more m lt q p u g =
        let k = hit_known y s d c w.number w.at w.left r e x z in
        let ys' = set ys (a + n) q in
        let at_ys : extent_at ys' (a + n) ≡ extent_of x = get_or-set_same ys (a + n) q no_extent (omega (arith, b.long, read_place m)) ∙ p in
        let this : record_in ys' c (t.number + n) (a + n) ≡ x = rw (at_ys, ← b.number, ← k.0.number, ← k.0.core) in
        let before : run_in ys' c t.number a n ≡ run_in ys c t.number a n = run_same ys ys' (a + n) (set_same ys (a + n) (a + n) q (omega arith)) c t.number a n (omega arith) in
        let now : run_in ys' c t.number a (n + 1) ≡ run_in ys c t.number a n ++ (x ∷ []) =
        run_more ys' c t.number a n ∙ ap₂ (λ (f g : List Committed). f ++ g) before (ap (λ (b : Committed). b ∷ []) this) in
        let more : most - n ≡ suc (most - (n + 1)) = omega arith in
        let hit : rest (most - n) w ≡ x ∷ rest (most - (n + 1)) (past s w x) =
        ap (λ (i : ℕ). rest i w) more
        ∙ records_hit y s d c w.number w.at w.left (most - (n + 1)) x (read_whole y s d c w.number w.at w.left x (sym e ∙ z)) in
        rw g
        (record {
          number = omega (arith, b.number);
          left = omega (arith, b.left, k.2);
          same =
              ap (λ (f : List Committed). f ++ rest (most - (n + 1)) (past s w x)) now
              ∙ append_assoc (run_in ys c t.number a n) (x ∷ []) (rest (most - (n + 1)) (past s w x))
              ∙ ap (λ (f : List Committed). run_in ys c t.number a n ++ f) (sym hit)
              ∙ b.same;
          extents = same_trans a xs ys ys' b.extents (set_same ys (a + n) a q (omega arith));
          long = length-set ys (a + n) q ∙ b.long;
        })

  -- ---- the end
  module _ (l : InRange s) (ys : List Extent) (w : Walk) (n : ℕ) (b : ReadTo ys w n) where
    ended : rest (most - n) w ≡ [] → JournalRead y s d c t most a xs ys n
    unfolding IsJournal
    ended h =
        record {
          journal = sym (append-nil (run_in ys c t.number a n)) ∙ (rw h at b.same);
          few = omega (arith, b.left, l.short);
          extents = b.extents;
        }

    pub read_counted : most ≤ n → n ≤ most → JournalRead y s d c t most a xs ys most
    unfolding records_from
    read_counted h g =
        let z : most - n ≡ 0 = omega arith in
        let q : n ≡ most = omega arith in
        subst (λ (m : ℕ). JournalRead y s d c t most a xs ys m) q (ended (rw (z, records_from)))

    pub read_full : w.left < 2 → JournalRead y s d c t most a xs ys n
    read_full h = ended (records_miss y s d c w.number w.at w.left (most - n) (no_room y s d c w.number w.at w.left h))

    pub read_end : (r : Result Committed JournalEnd) → r ≡ read_record y s d c w.number w.at w.left → (x : JournalEnd) → r ≡ Err x
        → JournalRead y s d c t most a xs ys n
    unfolding found_by
    read_end r e x h =
        ended (records_miss y s d c w.number w.at w.left (most - n) (sym (found_as y s d c w.number w.at w.left r e) ∙ ap found_by h))

-- ---- core by core
total_set : (xs : List ℕ) (c x n : ℕ) → n ≤ c → total (λ (b : ℕ). get_or (set xs c x) b 0) (below n) ≡ total (λ (b : ℕ). get_or xs b 0) (below n)
total_set xs c x n h =
    total_same (λ (b : ℕ). get_or (set xs c x) b 0) (λ (b : ℕ). get_or xs b 0) (below n)
    (mem_each (λ (b : ℕ). get_or (set xs c x) b 0 ≡ get_or xs b 0) (below n) (λ b m. get_or-set_other xs c b x 0 (omega (arith, mem_below n m))))

module _ (y : CommitLayout) (s : Shape) (d : Bytes) (ts : List Tail) (most : List ℕ) where
  -- the journals of the cores below c, all records in the first n places
  pub record AllRead (xs : List Extent) (start count : List ℕ) (n c : ℕ) : Type 0 where
    pub journals : (b : ℕ) → b < c → IsJournal y s d b (tail_for ts b) (get_or most b 0) xs (get_or start b 0) (get_or count b 0)
    pub behind : (b : ℕ) → b < c → get_or start b 0 ≡ total (λ (i : ℕ). get_or count i 0) (below b)
    pub few : (b : ℕ) → b < c → get_or count b 0 ≤ 12
    pub within : (b : ℕ) → b < c → get_or start b 0 + get_or count b 0 ≤ n
    pub all : n ≡ total (λ (i : ℕ). get_or count i 0) (below c)
    pub cores : c ≤ s.cores
    pub starts : length start ≡ 8
    pub counts : length count ≡ 8

  pub all_none : (xs : List Extent) (start count : List ℕ) → length start ≡ 8 → length count ≡ 8 → AllRead xs start count 0 0
  unfolding total below
  all_none xs start count f g =
      record {
        journals = λ b h. absurd (omega arith);
        behind = λ b h. absurd (omega arith);
        few = λ b h. absurd (omega arith);
        within = λ b h. absurd (omega arith);
        all = refl;
        cores = omega arith;
        starts = f;
        counts = g;
      }

  module _ (l : InRange s) (xs : List Extent) (start count : List ℕ) (n c : ℕ) (v : AllRead xs start count n c) where
    all_low : n ≤ 12 * c
    all_low = omega (arith, v.all, total_few (λ (i : ℕ). get_or count i 0) c v.few)

    pub all_room : c < s.cores → n ≤ 84
    all_room h = omega (arith, all_low, l.few_cores)

    module _ (h : c < s.cores) (t : Tail) (e : t ≡ tail_for ts c) (ys : List Extent) (m : ℕ) (r : JournalRead y s d c t (get_or most c 0) n xs ys m) where
      pub all_sum : n + m < 256
      all_sum = omega (arith, all_room h, r.few)

      pub all_more : AllRead ys (set start c n) (set count c m) (n + m) (c + 1)
      unfolding IsJournal below
      all_more =
          let in_start : c < length start = omega (arith, v.starts, l.few_cores) in
          let in_count : c < length count = omega (arith, v.counts, l.few_cores) in
          let at_start : get_or (set start c n) c 0 ≡ n = get_or-set_same start c n 0 in_start in
          let at_count : get_or (set count c m) c 0 ≡ m = get_or-set_same count c m 0 in_count in
          let other_start : (b : ℕ) → b < c → get_or (set start c n) b 0 ≡ get_or start b 0 = λ b g. get_or-set_other start c b n 0 (omega arith) in
          let other_count : (b : ℕ) → b < c → get_or (set count c m) b 0 ≡ get_or count b 0 = λ b g. get_or-set_other count c b m 0 (omega arith) in
          record {
            journals =
                λ b g.
                elim (dec_lt b c) [
                  | yes lt ↦ rw (other_start b lt, other_count b lt)
                      (run_same xs ys n r.extents b (tail_for ts b).number (get_or start b 0) (get_or count b 0) (v.within b lt) ∙ v.journals b lt)
                  | no ge ↦ let z : b ≡ c = omega arith in rw (z, at_start, at_count) (rw e at r.journal)
                ];
            behind =
                λ b g.
                elim (dec_lt b c) [
                  | yes lt ↦ rw (other_start b lt, total_set count c m b (omega arith)) (v.behind b lt)
                  | no ge ↦ let z : b ≡ c = omega arith in rw (z, at_start, total_set count c m c (omega arith)) v.all
                ];
            few =
                λ b g.
                elim (dec_lt b c) [
                  | yes lt ↦ rw (other_count b lt) (v.few b lt)
                  | no ge ↦ let z : b ≡ c = omega arith in rw (z, at_count) r.few
                ];
            within =
                λ b g.
                elim (dec_lt b c) [
                  | yes lt ↦ rw (other_start b lt, other_count b lt) (omega (arith, v.within b lt))
                  | no ge ↦ let z : b ≡ c = omega arith in rw (z, at_start, at_count) (omega arith)
                ];
            all =
                rw (add-one, below, total_last (λ (i : ℕ). get_or (set count c m) i 0) (below c) c, at_count, total_set count c m c (omega arith))
                (ap (λ (i : ℕ). i + m) v.all);
            cores = omega arith;
            starts = length-set start c n ∙ v.starts;
            counts = length-set count c m ∙ v.counts;
          }

    module _ (h : s.cores ≤ c) where
      pub all_reads : Reads y s d ts most xs start count
      unfolding Behind
      all_reads =
          let z : c ≡ s.cores = omega (arith, v.cores) in
          record {
            journals = λ b g. v.journals b (omega arith);
            behind = λ b g. v.behind b (omega arith);
            few = λ b g. v.few b (omega arith);
          }

      pub all_tested : RunsTested s d xs start count
      all_tested = reads_tested y s d ts most xs start count all_reads l

-- ---- the records read are the journals
pub number_at : (ts : List Tail) (c : ℕ) → c < 8 → get_or (numbers_of ts) c 0 ≡ (tail_for ts c).number
unfolding numbers_of
number_at ts c h = get_or_map_below (λ (c : ℕ). (tail_for ts c).number) 8 c 0 h

module _ (y : CommitLayout) (s : Shape) (d : Bytes) (ts : List Tail) (most : List ℕ) (xs : List Extent) (start count : List ℕ) (r : Reads y s d ts most xs start count) where
  pub reads_journals : InRange s → records_in s xs (numbers_of ts) start count ≡ journals y s d (tail_for ts) (λ (c : ℕ). get_or most c 0)
  unfolding records_in journals IsJournal
  reads_journals l =
      flat_map_below (λ (c : ℕ). run_in xs c (get_or (numbers_of ts) c 0) (get_or start c 0) (get_or count c 0)) (λ (c : ℕ). journal y s d c (tail_for ts c) (get_or most c 0)) s.cores
      (λ c h. ap (λ (k : ℕ). run_in xs c k (get_or start c 0) (get_or count c 0)) (number_at ts c (omega (arith, l.few_cores))) ∙ r.journals c h)

  -- a core's count is that of its records
  pub reads_count : (c : ℕ) → c < s.cores → get_or count c 0 ≡ length (journal y s d c (tail_for ts c) (get_or most c 0))
  unfolding IsJournal
  reads_count c h = sym (run_length xs c (tail_for ts c).number (get_or start c 0) (get_or count c 0)) ∙ ap length (r.journals c h)
