-- The lines of a disk's page from the records of its journals: the n-th transaction stands at place n, and it is in the valid set where its
-- number less the tail's is below its core's count there; past the transactions, what is left of n is the core.
use Rattle.model.proofs.Base.{ℕ, zero, suc, ◌+◌, ◌-◌, ◌≤◌, ◌<◌, arith, dec_lt, add-one, ◌≡◌, refl, sym, ap, ◌∙◌, Bool, true, false}
use Rattle.model.proofs.Base.{cond, not, List, [], ◌∷◌, ◌++◌, map, length, get_or, length-map, length-append, list_get_or_append, eq-eqb, ne_eqb}
use Rattle.model.proofs.Base.{ltb, lt-ltb, ltb-true, ltb-false, flat_map, below, Bytes}
use lib.ListN.{get_or-eq_default}
use lib.Seq.{get_or-append-add}
use Rattle.model.specs.Limits.{disk_size}
use Rattle.model.specs.Lists.{total}
use Rattle.model.specs.Bytes.{block_at}
use Rattle.model.specs.Card.{new_tail}
use Rattle.model.specs.Layout.{is_master, names_in, cores_named}
use Rattle.model.specs.Journal.{name_of, journal_at, names_of}
use Rattle.model.specs.Valid.{is_in}
use Rattle.model.specs.Recovery.{shape_on, tail_on, layout_on, committed_on, valid_on}
use Rattle.model.specs.JournalEnds.{record_answer, journal_end}
use Rattle.model.specs.JournalPage.{head_fields, transaction_fields, end_fields, refusal_fields, page_refusal, transaction_line, end_on, end_line, body_lines, page_of, line_at}
use Rattle.model.specs.JournalPage as page
use Rattle.model.specs.declared.Shape.{Shape}
use Rattle.model.specs.declared.Tail.{Tail}
use Rattle.model.specs.declared.CommitLayout.{CommitLayout}
use Rattle.model.specs.declared.Committed.{Committed}
use Rattle.std.specs.Prelude.{Result}
use Rattle.model.specs.declared.JournalEnd.{JournalEnd}
use Rattle.model.proofs.Lists.{cases, length_below, get_or_map, get_or_map_below, flat_map_append, mem_each}
use Rattle.model.proofs.Limits.{InRange}
use Rattle.model.proofs.Totals.{total_last, total_same}
use Rattle.journal_page.proofs.PageLaws.{refusal_number, refusal_numbers, refused_page, page_length, page_head, page_behind, line_behind}
use Rattle.journal.specs.declared.extents.Extent.{Extent}
use Rattle.journal.specs.Records.{committed_in, extent_at, numbers_of, record_in, run_in, records_in, ExtentTested}
use Rattle.journal.specs.Walk.{Behind}
use Rattle.journal.proofs.Reading.{run_length, number_at}
use Rattle.journal.proofs.Tested.{run_of, total_few}
use Rattle.valid.specs.Sets.{tail_number, total_count}
use Rattle.valid.proofs.Sets.{tail_number_lem, in_count}
use Rattle.recovery.specs.Recovering.{numbers_on, Shaped, OnDisk, IsValid}
use Rattle.recovery.proofs.JournalLaws.{all_committed, same_tail, same_numbers}
use Rattle.std.specs.Prelude.{None, Some}
use Rattle.journal_page.specs.Fields.{fields_of, refused_line, TailsOn, IsNth, with_number}

-- ---- a disk that recovery would refuse
module _ (d : Bytes) where
  pub wrong_length_lem : (length d ≡ disk_size → ⊥) → 1 ≡ page_refusal d
  wrong_length_lem h = sym (refusal_number d ∙ rw (ne_eqb (length d) disk_size h))

  pub right_length : length d ≡ disk_size → (n : ℕ) → n ≡ cond (not (is_master (block_at d 0))) 8 0 → n ≡ page_refusal d
  right_length h n e =
      e ∙ sym (refusal_number d ∙ rw (eq-eqb (length d) disk_size h) (cases (is_master (block_at d 0)) (λ t. rw t) (λ t. rw t)))

  -- one that it would not has its length and a fit master
  module _ (n : ℕ) (e : n ≡ page_refusal d) (z : n ≡ 0) where
    readable : (length d ≡ disk_size) × (is_master (block_at d 0) ≡ true)
    readable = (refusal_numbers d).2.0 (sym e ∙ z)

    pub is_long : length d ≡ disk_size
    is_long = readable.0

    pub is_fit : is_master (block_at d 0) ≡ true
    is_fit = readable.1

  module _ (n : ℕ) (e : n ≡ page_refusal d) (h : n ≡ 0 → ⊥) where
    one_line : page_of d ≡ refusal_fields n ∷ []
    one_line = refused_page d (λ z. h (e ∙ z)) ∙ ap (λ (k : ℕ). refusal_fields k ∷ []) (sym e)

    pub one_lines : 1 ≡ length (page_of d)
    one_lines = sym (ap length one_line)

    pub refused_at : (i : ℕ) (fs : List page.Field) → fs ≡ refused_line n i → fs ≡ line_at d i
    unfolding line_at
    refused_at i fs q = q ∙ ap (λ (l : List (List page.Field)). get_or l i []) (sym one_line)

-- ---- the core of the n-th transaction
module _ (s : Shape) (count : List ℕ) (n : ℕ) where
  -- the cores below c have no more than n
  pub record CoresPassed (c : ℕ) : Type 0 where
    pub most : c ≤ s.cores
    pub before : total (λ (i : ℕ). get_or count i 0) (below c) ≤ n

  pub cores_none : CoresPassed 0
  unfolding total below
  cores_none = record { most = omega arith; before = omega arith }

  module _ (start : List ℕ) (c : ℕ) (w : CoresPassed c) where
    module _ (b : Behind s start count) (h : c < s.cores) (r : Bool) (e : r ≡ ltb n (get_or start c 0 + get_or count c 0)) where
      pub nth_here : r ≡ true → IsNth s start count n (Some c)
      unfolding Behind
      nth_here t = (h, omega (arith, b c h, w.before), ltb-true _ _ (sym e ∙ t))

      pub cores_more : r ≡ false → CoresPassed (c + 1)
      unfolding Behind below
      cores_more t =
          let l : get_or start c 0 + get_or count c 0 ≤ n = ltb-false _ _ (sym e ∙ t) in
          record { most = omega arith; before = rw (add-one, below, total_last (λ (i : ℕ). get_or count i 0) (below c) c) (omega (arith, b c h)) }

    pub nth_past : s.cores ≤ c → IsNth s start count n None
    unfolding total_count
    nth_past h = let z : c ≡ s.cores = omega (arith, w.most) in rw (← z) w.before

-- ---- the transaction there
total_rises : (f : ℕ → ℕ) (n c : ℕ) → c < n → total f (below c) + f c ≤ total f (below n)
unfolding below
total_rises f zero c h = absurd (omega arith)
total_rises f (suc n) c h =
    elim (dec_lt c n) [
      | yes lt ↦ omega (arith, total_last f (below n) n, total_rises f n c lt)
      | no ge ↦ (let e : c ≡ n = omega arith in rw e (omega (arith, total_last f (below n) n)))
    ]

-- of lists one behind the other
module _ {A : Type 0} (f : ℕ → List A) where
  length_lists : (n : ℕ) → length (flat_map f (below n)) ≡ total (λ (c : ℕ). length (f c)) (below n)
  unfolding flat_map below total
  length_lists zero = refl
  length_lists (suc n) =
      ap length (flat_map_append f (below n) (n ∷ []))
      ∙ length-append (flat_map f (below n)) (f n ++ [])
      ∙ omega (arith, length_lists n, total_last (λ (c : ℕ). length (f c)) (below n) n, length-append (f n) [])

  nth_lists : (n c j : ℕ) (z : A) → c < n → j < length (f c) → get_or (flat_map f (below n)) (total (λ (c : ℕ). length (f c)) (below c) + j) z ≡ get_or (f c) j z
  unfolding flat_map below
  nth_lists zero c j z h l = absurd (omega arith)
  nth_lists (suc n) c j z h l =
      let at = total (λ (c : ℕ). length (f c)) (below c) in
      elim (dec_lt c n) [
        | yes lt ↦
            ap (λ (xs : List A). get_or xs (at + j) z) (flat_map_append f (below n) (n ∷ []))
            ∙ list_get_or_append (flat_map f (below n)) (f n ++ []) z (at + j) (omega (arith, length_lists n, total_rises (λ (c : ℕ). length (f c)) n c lt))
            ∙ nth_lists n c j z lt l
        | no ge ↦
            (let e : c ≡ n = omega arith in
            rw e
            (ap (λ (xs : List A). get_or xs (total (λ (c : ℕ). length (f c)) (below n) + j) z) (flat_map_append f (below n) (n ∷ []))
            ∙ ap (λ (i : ℕ). get_or (flat_map f (below n) ++ (f n ++ [])) (i + j) z) (sym (length_lists n))
            ∙ get_or-append-add (flat_map f (below n)) (f n ++ []) j z
            ∙ list_get_or_append (f n) [] z j (rw e at l)))
      ]

module _ (s : Shape) (xs : List Extent) (ks start count : List ℕ) where
  abbrev run : ℕ → List Committed
  run c = run_in xs c (get_or ks c 0) (get_or start c 0) (get_or count c 0)

  run_lengths : (n : ℕ) → total (λ (c : ℕ). length (run c)) (below n) ≡ total (λ (c : ℕ). get_or count c 0) (below n)
  run_lengths n = total_same (λ (c : ℕ). length (run c)) (λ (c : ℕ). get_or count c 0) (below n) (mem_each _ (below n) (λ c m. run_length xs c (get_or ks c 0) (get_or start c 0) (get_or count c 0)))

  records_length : length (records_in s xs ks start count) ≡ total_count s count
  unfolding records_in total_count
  records_length = length_lists run s.cores ∙ run_lengths s.cores

  module _ (b : Behind s start count) (n c : ℕ) (w : IsNth s start count n (Some c)) where
    h : c < s.cores
    h = w.0

    nth_record : get_or (records_in s xs ks start count) n (record_in xs 0 0 0) ≡ record_in xs c (get_or ks c 0 + (n - get_or start c 0)) n
    unfolding records_in Behind run_in
    nth_record =
        let j = n - get_or start c 0 in
        let at : total (λ (c : ℕ). length (run c)) (below c) + j ≡ n = omega (arith, run_lengths c, b c h, w.1) in
        let l : j < get_or count c 0 = omega (arith, w.1, w.2) in
        let here : get_or start c 0 + j ≡ n = omega (arith, w.1) in
        ap (λ (i : ℕ). get_or (flat_map run (below s.cores)) i (record_in xs 0 0 0)) (sym at)
        ∙ nth_lists run s.cores c j (record_in xs 0 0 0) h (omega (arith, run_length xs c (get_or ks c 0) (get_or start c 0) (get_or count c 0)))
        ∙ get_or_map_below (λ (j : ℕ). record_in xs c (get_or ks c 0 + j) (get_or start c 0 + j)) (get_or count c 0) j (record_in xs 0 0 0) l
        ∙ ap (record_in xs c (get_or ks c 0 + j)) here

    nth_low : n < length (records_in s xs ks start count)
    unfolding total_count Behind
    nth_low = omega (arith, records_length, b c h, w.2, total_rises (λ (c : ℕ). get_or count c 0) s.cores c h)

    nth_mapped : {A : Type 0} (f : Committed → A) (z : A) (more : List A)
        → get_or (map f (records_in s xs ks start count) ++ more) n z ≡ f (record_in xs c (get_or ks c 0 + (n - get_or start c 0)) n)
    nth_mapped f z more =
        let es = records_in s xs ks start count in
        list_get_or_append (map f es) more z n (omega (arith, length-map es f, nth_low)) ∙ get_or_map f es n (record_in xs 0 0 0) z nth_low ∙ ap f nth_record

-- a record shown: its fields, with its number counted from the tail
pub record_shown : (y : CommitLayout) (s : Shape) (d : Bytes) (xs : List Extent) (c n : ℕ) (e : Committed) → e ≡ committed_in c 0 (extent_at xs n) → (named : ℕ) → named ≡ cores_named (names_of y s d e)
    → (kept : Bool) (k : ℕ) (fs : List page.Field) → fs ≡ transaction_fields kept named (with_number k e) → fs ≡ fields_of y s d kept (record_in xs c k n)
unfolding fields_of names_of record_in
record_shown y s d xs c n e q named p kept k fs h = h ∙ rw (p, q)

-- the cores that it names are read of its commit
pub cores_counted : (y : CommitLayout) (s : Shape) (d : Bytes) (e : Committed) (f : Bytes) (n : ℕ) → f ≡ journal_at s d e.core (e.position + (e.count + 1)) → n ≡ cores_named (names_in y f)
    → n ≡ cores_named (names_of y s d e)
unfolding names_of
cores_counted y s d e f n p q = q ∙ rw p

-- it is in a set exactly if its place among its core's is below the core's count
in_lower : (s : Shape) (xs : List Extent) (ks start few : List ℕ) → InRange s → (c j i : ℕ) → c < s.cores
    → is_in (records_in s xs ks start few) (name_of (record_in xs c (get_or ks c 0 + j) i)) ≡ ltb j (get_or few c 0)
unfolding record_in
in_lower s xs ks start few l c j i h =
    let t : tail_number ks c ≡ get_or ks c 0 = tail_number_lem s ks l c h in
    let k : get_or ks c 0 + j - tail_number ks c ≡ j = omega arith in
    in_count s xs ks start few l (name_of (record_in xs c (get_or ks c 0 + j) i)) (omega arith) ∙ rw (lt-ltb c s.cores h, k)

-- ---- the ends
module _ (d : Bytes) (s : Shape) (g : Shaped s d) (y : CommitLayout) (q : y ≡ layout_on d) (ts : List Tail) (r : TailsOn s d ts) (c : ℕ) where
  pub end_none : s.cores ≤ c → (fs : List page.Field) → fs ≡ [] → fs ≡ get_or (map (end_line d) (below s.cores)) c []
  end_none h fs e =
      let l : length (map (end_line d) (below s.cores)) ≤ c = omega (arith, length-map (below s.cores) (end_line d), length_below s.cores) in
      e ∙ sym (get_or-eq_default (map (end_line d) (below s.cores)) [] l)

  pub end_shown : c < s.cores → (t : Tail) → t ≡ get_or ts c (new_tail 0 0) → (a : Result Committed JournalEnd) → a ≡ journal_end y s d c t → (n : ℕ) → n ≡ (record_answer a).0
      → (fs : List page.Field) → fs ≡ end_fields c n → fs ≡ get_or (map (end_line d) (below s.cores)) c []
  unfolding end_line end_on TailsOn
  end_shown h t p a z n k fs e =
      let read : a ≡ journal_end (layout_on d) (shape_on d) d c (tail_on d c) =
      z ∙ ap (λ (z : CommitLayout). journal_end z s d c t) q ∙ ap (journal_end (layout_on d) s d c) (p ∙ r c h) ∙ ap (λ (s : Shape). journal_end (layout_on d) s d c (tail_on d c)) g.shape in
      e ∙ ap (end_fields c) (k ∙ ap (λ (a : Result Committed JournalEnd). (record_answer a).0) read) ∙ sym (get_or_map_below (end_line d) s.cores c [] h)

-- ---- the lines of a disk that recovery would not refuse
module _ (d : Bytes) (s : Shape) (g : Shaped s d) (y : CommitLayout) (ts : List Tail) (xs : List Extent) (start count : List ℕ) (r : OnDisk s d y ts xs start count) where
  committed_count : length (committed_on d) ≡ total_count s count
  committed_count = ap length (sym (all_committed d s g y ts xs start count r)) ∙ records_length s xs (numbers_of ts) start count

  same_cores : s.cores ≡ (shape_on d).cores
  same_cores = ap (λ (s : Shape). s.cores) g.shape

  pub behind_on : Behind s start count
  unfolding Behind
  behind_on = r.records.behind

  pub tails_here : TailsOn s d ts
  unfolding TailsOn
  tails_here = same_tail d s g y ts xs start count r

  module _ (n : ℕ) (q : n ≡ total_count s count) where
    pub count_low : n ≤ 96
    unfolding total_count
    count_low = omega (arith, q, g.range.few_cores, total_few (λ (c : ℕ). get_or count c 0) s.cores r.records.few)

    pub lines_counted : (x : ℕ) → x ≡ page_refusal d → x ≡ 0 → 1 + n + s.cores ≡ length (page_of d)
    lines_counted x e z = omega (arith, q, committed_count, same_cores, page_length d (sym e ∙ z))

  module _ (n : ℕ) where
    -- past the transactions a core's end
    module _ (w : IsNth s start count n None) (k : ℕ) (q : k ≡ total_count s count) where
      pub nth_past_all : k ≤ n
      nth_past_all = omega (arith, q, w)

      pub nth_end : (fs : List page.Field) → fs ≡ get_or (map (end_line d) (below s.cores)) (n - k) [] → fs ≡ get_or (body_lines d) n []
      nth_end fs e =
          let place : length (committed_on d) + (n - k) ≡ n = omega (arith, committed_count, q, nth_past_all) in
          e ∙ ap (λ (c : ℕ). get_or (map (end_line d) (below c)) (n - k) []) same_cores ∙ sym (line_behind d (n - k))
          ∙ ap (λ (j : ℕ). get_or (body_lines d) j []) place

    module _ (c : ℕ) (w : IsNth s start count n (Some c)) where
      low : c < s.cores
      low = w.0

      pub nth_place : n < 96
      nth_place = omega (arith, w.2, (run_of s d xs start count r.tested c low).room)

      pub nth_tested : ExtentTested s d c (extent_at xs n)
      nth_tested =
          let z : get_or start c 0 + (n - get_or start c 0) ≡ n = omega (arith, w.1) in
          rw z at ((run_of s d xs start count r.tested c low).each (n - get_or start c 0) (omega (arith, w.1, w.2)))

      pub nth_shown : (begin few : List ℕ) → IsValid s d xs begin few → (t : Tail) → t ≡ get_or ts c (new_tail 0 0) → (fs : List page.Field)
          → fs ≡ fields_of y s d (ltb (n - get_or start c 0) (get_or few c 0)) (record_in xs c (t.number + (n - get_or start c 0)) n)
          → fs ≡ get_or (body_lines d) n []
      unfolding transaction_line body_lines fields_of
      nth_shown begin few valid t p fs e =
          let ks = numbers_on d in
          let j = n - get_or start c 0 in
          let ends = map (end_line d) (below (shape_on d).cores) in
          let same : numbers_of ts ≡ ks = same_numbers d s g y ts xs start count r in
          let k : t.number ≡ get_or ks c 0 = ap (λ (t : Tail). t.number) p ∙ sym (number_at ts c (omega (arith, g.range.few_cores))) ∙ ap (λ (l : List ℕ). get_or l c 0) same in
          let x = record_in xs c (get_or ks c 0 + j) n in
          let read : records_in s xs ks start count ≡ committed_on d = ap (λ (l : List ℕ). records_in s xs l start count) (sym same) ∙ all_committed d s g y ts xs start count r in
          let m : ltb j (get_or few c 0) ≡ is_in (valid_on d) (name_of x) =
          sym (in_lower s xs ks begin few g.range c j n low) ∙ ap (λ (es : List Committed). is_in es (name_of x)) valid.valid in
          e ∙ ap (λ (a : ℕ). fields_of y s d (ltb j (get_or few c 0)) (record_in xs c (a + j) n)) k
          ∙ ap (λ (z : CommitLayout). fields_of z s d (ltb j (get_or few c 0)) x) r.layout
          ∙ ap (λ (z : Shape). fields_of (layout_on d) z d (ltb j (get_or few c 0)) x) g.shape
          ∙ ap (λ (b : Bool). fields_of (layout_on d) (shape_on d) d b x) m
          ∙ sym (nth_mapped s xs ks start count behind_on n c w (transaction_line d) [] ends)
          ∙ ap (λ (es : List Committed). get_or (map (transaction_line d) es ++ ends) n []) read

module _ (d : Bytes) (x : ℕ) (e : x ≡ page_refusal d) (z : x ≡ 0) (s : Shape) (g : Shaped s d) (i : ℕ) (fs : List page.Field) where
  pub head_at : fs ≡ head_fields s → i ≡ 0 → fs ≡ line_at d i
  head_at q h = q ∙ ap head_fields g.shape ∙ sym (page_head d (sym e ∙ z)) ∙ ap (line_at d) (sym h)

  pub behind_at : (i ≡ 0 → ⊥) → fs ≡ get_or (body_lines d) (i - 1) [] → fs ≡ line_at d i
  behind_at h q = let y : i - 1 + 1 ≡ i = omega arith in q ∙ sym (page_behind d (sym e ∙ z) (i - 1)) ∙ ap (line_at d) y
