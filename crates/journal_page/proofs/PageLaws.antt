-- The journal page of paper 02, requests (a), (b) and (d): the bytes of its lines column by column, which disk has a page of one line,
-- which lines the page of any other has, and which word each of its transactions has.
use mathlib.Core.Logic.{◌↔◌}
use lib.ListN.{get_or-eq_default}
use lib.Seq.{get_or-append-add}
use Rattle.model.specs.Limits.{disk_size, memory_size}
use Rattle.model.specs.Lists.{Each}
use Rattle.model.specs.Bytes.{block_at, zero_memory}
use Rattle.model.specs.Card.{is_blank, is_up, same_name, fresh_card, empty_card, down_card}
use Rattle.model.specs.Layout.{is_master, cores_named}
use Rattle.model.specs.Journal.{name_of, journal, journals, names_of}
use Rattle.model.specs.Valid.{Order, in_sequence, is_in}
use Rattle.model.specs.Checkpoint.{oldest}
use Rattle.model.specs.Command.{World, refusal, wrong_length}
use Rattle.model.specs.Recovery.{shape_on, tail_on, layout_on, committed_by, committed_on, valid_on_by, valid_on, recover_conditions_by, recover_conditions, recovered, recover}
use Rattle.model.specs.Tape.{RECOVER}
use Rattle.model.specs.Step.{done_by}
use Rattle.model.specs.JournalPage.{Field, line_size, space, line_feed, digit_at, numeral, covers, shown_at, byte_at, line_bytes}
use Rattle.model.specs.JournalPage.{head_fields, kept_or_left, transaction_fields, end_fields, refusal_fields, page_refusal, transaction_line, end_line, body_lines, page_of}
use Rattle.model.specs.JournalPage.{line_at, lay_number, laid}
use Rattle.model.specs.declared.Phase.{Phase}
use Rattle.model.specs.declared.Phase.TheVariants.{Down}
use Rattle.model.specs.declared.Shape.{Shape}
use Rattle.model.specs.declared.Tail.{Tail}
use Rattle.model.specs.declared.CommitLayout.{CommitLayout}
use Rattle.model.specs.declared.Committed.{Committed}
use Rattle.model.proofs.Base.{ℕ, zero, suc, ◌+◌, ◌≤◌, ◌<◌, arith, add-one, ◌≡◌, refl, sym, ap, ◌∙◌, ◌≢◌}
use Rattle.model.proofs.Base.{Bool, true, false, true≢false, cond, not, List, [], ◌∷◌, ◌++◌, map, length, get_or, replicate}
use Rattle.model.proofs.Base.{Memᴰ, mem_head, mem_tail, mem_cast, append-nil, flat_map, any, ◌⊎◌, inl, inr, subst}
use Rattle.model.proofs.Base.{length-map, length-append, list_get_or_append, eqb, eq-eqb, ne_eqb, eqb-true, eqb-false, below, Bytes}
use Rattle.model.proofs.Lists.{cases, length_below, get_or_map, get_or_map_below, each_append, each_get_or, get_or_each, mem_each, any_mem, mem_any, flat_map_append, mem_flat_map, mem_below}
use Rattle.journal_page.proofs.Numerals.{set_right, digit_last}
use Rattle.model.proofs.Journal.{KnownRecord, records_known}
use Rattle.model.proofs.Records.{journal_known, journals_distinct}
use Rattle.model.proofs.Shrink.{Distinct}
use Rattle.model.proofs.Valid.{same_name_true, same_name_refl, valid_within}
use Rattle.model.proofs.Sizes.{length_zero_memory}
use Rattle.model.proofs.Command.{unless_answer, done_answer}

-- ---- a line
-- every line has 65 bytes
pub line_length : (fs : List Field) → length (line_bytes fs) ≡ line_size
unfolding line_bytes
line_length fs = length-map (below line_size) (λ (i : ℕ). byte_at fs (i + 1)) ∙ length_below line_size

-- the byte at index i is the one of column i + 1
pub line_byte : (fs : List Field) (i : ℕ) → i < line_size → get_or (line_bytes fs) i 0 ≡ byte_at fs (i + 1)
unfolding line_bytes
line_byte fs i h = get_or_map_below (λ (i : ℕ). byte_at fs (i + 1)) line_size i 0 h

-- so many blanks
abbrev pub blanks : ℕ → Bytes
blanks n = replicate n space

-- the head by its columns: C 1-2, B 4-5, J 7-8
pub head_columns : (s : Shape) → line_bytes (head_fields s)
    ≡ set_right 2 s.cores ++ blanks 1 ++ set_right 2 s.blocks ++ blanks 1 ++ set_right 2 s.journal ++ blanks 56 ++ line_feed ∷ []
unfolding line_bytes byte_at shown_at covers numeral head_fields below
head_columns s = refl

-- a transaction's line by its columns: core 1-2, number 4-13, stamp 15-34, block count 36-37, name count 39-40, word 42-45
pub transaction_columns : (kept : Bool) (named : ℕ) (e : Committed) → line_bytes (transaction_fields kept named e)
    ≡ set_right 2 e.core ++ blanks 1 ++ set_right 10 e.number ++ blanks 1 ++ set_right 20 e.stamp ++ blanks 1
    ++ set_right 2 e.count ++ blanks 1 ++ set_right 2 named ++ blanks 1 ++ kept_or_left kept ++ blanks 19 ++ line_feed ∷ []
unfolding line_bytes byte_at shown_at covers numeral transaction_fields kept_or_left below
transaction_columns true named e = refl
transaction_columns false named e = refl

-- the line of a journal's end by its columns: core 1-2, end 4-5
pub end_columns : (c end : ℕ) → line_bytes (end_fields c end) ≡ set_right 2 c ++ blanks 1 ++ set_right 2 end ++ blanks 59 ++ line_feed ∷ []
unfolding line_bytes byte_at shown_at covers numeral end_fields below
end_columns c end = refl

-- the line of a refused disk by its columns: the number 1-2
pub refusal_columns : (n : ℕ) → line_bytes (refusal_fields n) ≡ set_right 2 n ++ blanks 62 ++ line_feed ∷ []
unfolding line_bytes byte_at shown_at covers numeral refusal_fields below
refusal_columns n = refl

-- a line without fields, as past the last of a page: 64 blanks and the line feed
pub empty_columns : line_bytes [] ≡ blanks 64 ++ line_feed ∷ []
unfolding line_bytes byte_at shown_at below
empty_columns = refl

-- ---- a disk that recovery would refuse
-- what RECOVER is refused with on a card that is down, over memory of its length, hangs on the disk alone: its length, then its master
abbrev pub disk_refusal : Bytes → ℕ
disk_refusal d = cond (eqb (length d) disk_size) (cond (is_master (block_at d 0)) 0 8) 1

refusal_from : (w : World) (p : Phase) → p ≡ Down → length w.memory ≡ memory_size
    → refusal ((wrong_length w, 1) ∷ (is_blank p, 20) ∷ (is_up p, 23) ∷ (not (is_master (block_at w.disk 0)), 8) ∷ []) ≡ disk_refusal w.disk
unfolding refusal wrong_length
refusal_from w p q h =
    let e : eqb (length w.memory) memory_size ≡ true = eq-eqb (length w.memory) memory_size h in
    cases (eqb (length w.disk) disk_size)
    (λ t. cases (is_master (block_at w.disk 0)) (λ u. rw (e, t, u, q) refl) (λ u. rw (e, t, u, q) refl))
    (λ t. rw t refl)

refusal_down : (w : World) → w.card.phase ≡ Down → length w.memory ≡ memory_size → refusal (recover_conditions w) ≡ disk_refusal w.disk
unfolding recover_conditions_by
refusal_down w q h = refusal_from w w.card.phase q h

-- the card as a cut leaves it is down
is_down : down_card.phase ≡ Down
unfolding down_card empty_card fresh_card
is_down = refl

-- the number on a page, as a function of the disk
pub refusal_number : (d : Bytes) → page_refusal d ≡ disk_refusal d
unfolding page_refusal
refusal_number d = refusal_down (record { card = down_card; disk = d; memory = zero_memory }) is_down length_zero_memory

-- the page's number is what RECOVER is refused with on every card that is down over the disk, with any memory of its length
pub refusal_memory : (w : World) → w.card.phase ≡ Down → length w.memory ≡ memory_size → refusal (recover_conditions w) ≡ page_refusal w.disk
refusal_memory w q h = refusal_down w q h ∙ sym (refusal_number w.disk)

-- and what RECOVER answers there, 0 where it is carried out
pub recover_answer : (o : Order) (w : World) → w.card.phase ≡ Down → length w.memory ≡ memory_size → (recover o w).answer ≡ page_refusal w.disk
unfolding recover done_by
recover_answer o w q h = unless_answer (recover_conditions w) w (recovered o w) (done_answer o RECOVER w) ∙ refusal_memory w q h

-- 1 exactly where the disk has another length, 8 exactly where the length is right and the master unfit, 0 otherwise
pub refusal_numbers : (d : Bytes)
    → (page_refusal d ≡ 1 ↔ length d ≢ disk_size)
    × (page_refusal d ≡ 8 ↔ ((length d ≡ disk_size) × (is_master (block_at d 0) ≡ false)))
    × (page_refusal d ≡ 0 ↔ ((length d ≡ disk_size) × (is_master (block_at d 0) ≡ true)))
refusal_numbers d =
    cases (eqb (length d) disk_size)
    (λ t.
    let l : length d ≡ disk_size = eqb-true (length d) disk_size t in
    cases (is_master (block_at d 0))
    (λ u.
    let n : page_refusal d ≡ 0 = refusal_number d ∙ rw (t, u) refl in (
      (λ h. absurd (omega arith), λ h. absurd (h l)),
      (λ h. absurd (omega arith), λ h. absurd (true≢false (sym u ∙ h.1))),
      (λ h. (l, u), λ h. n),
    ))
    (λ u.
    let n : page_refusal d ≡ 8 = refusal_number d ∙ rw (t, u) refl in (
      (λ h. absurd (omega arith), λ h. absurd (h l)),
      (λ h. (l, u), λ h. n),
      (λ h. absurd (omega arith), λ h. absurd (true≢false (sym h.1 ∙ u))),
    )))
    (λ t.
    let n : page_refusal d ≡ 1 = refusal_number d ∙ rw t refl in
    let l : length d ≢ disk_size = eqb-false (length d) disk_size t in (
      (λ h. l, λ h. n),
      (λ h. absurd (omega arith), λ h. absurd (l h.0)),
      (λ h. absurd (omega arith), λ h. absurd (l h.0)),
    ))

-- ---- the lines of a page
-- a disk that recovery would refuse has the one line of that number
pub refused_page : (d : Bytes) → page_refusal d ≢ 0 → page_of d ≡ refusal_fields (page_refusal d) ∷ []
refused_page d h = go (page_refusal d) refl
  where
    go : (n : ℕ) → page_refusal d ≡ n → page_of d ≡ refusal_fields (page_refusal d) ∷ []
    go zero e = absurd (h e)
    go (suc n) e = unfold page_of in rw (e, page_of)

-- any other has the head line, then a line for each transaction read, then one for each core
pub page_lines : (d : Bytes) → page_refusal d ≡ 0 → page_of d ≡ head_fields (shape_on d) ∷ body_lines d
unfolding page_of
page_lines d h = rw (h, page_of)

-- behind the head: as many lines as transactions read, and C
lines_length : (d : Bytes) → length (body_lines d) ≡ length (committed_on d) + (shape_on d).cores
unfolding body_lines
lines_length d =
    let n = (shape_on d).cores in
    simp length-append
    (omega (arith, length-map (committed_on d) (transaction_line d), length-map (below n) (end_line d), length_below n))

-- the i-th of them is the i-th transaction's, whatever stands for none
line_transaction : (d : Bytes) (i : ℕ) (z : Committed) → i < length (committed_on d) → get_or (body_lines d) i [] ≡ transaction_line d (get_or (committed_on d) i z)
unfolding body_lines
line_transaction d i z h =
    list_get_or_append (map (transaction_line d) (committed_on d)) _ [] i (omega (arith, length-map (committed_on d) (transaction_line d)))
    ∙ get_or_map (transaction_line d) (committed_on d) i z [] h

-- past the transactions those of the ends, and no more
pub line_behind : (d : Bytes) (c : ℕ) → get_or (body_lines d) (length (committed_on d) + c) [] ≡ get_or (map (end_line d) (below (shape_on d).cores)) c []
unfolding body_lines
line_behind d c =
    rw (← length-map (committed_on d) (transaction_line d))
    (get_or-append-add (map (transaction_line d) (committed_on d)) (map (end_line d) (below (shape_on d).cores)) c [])

-- as many lines as transactions read, the head and C
pub page_length : (d : Bytes) → page_refusal d ≡ 0 → length (page_of d) ≡ 1 + length (committed_on d) + (shape_on d).cores
page_length d h = ap length (page_lines d h) ∙ omega (arith, lines_length d)

-- line 0 is the head
pub page_head : (d : Bytes) → page_refusal d ≡ 0 → line_at d 0 ≡ head_fields (shape_on d)
unfolding line_at
page_head d h = rw (page_lines d h) refl

-- line n + 1 is the n-th behind the head
pub page_behind : (d : Bytes) → page_refusal d ≡ 0 → (n : ℕ) → line_at d (n + 1) ≡ get_or (body_lines d) n []
unfolding line_at
page_behind d h n = rw (page_lines d h, add-one n) refl

-- line i + 1 is that of the i-th transaction, whatever stands for none
pub page_line : (d : Bytes) → page_refusal d ≡ 0 → (i : ℕ) (z : Committed) → i < length (committed_on d)
    → line_at d (i + 1) ≡ transaction_line d (get_or (committed_on d) i z)
page_line d h i z l = page_behind d h i ∙ line_transaction d i z l

-- past them, core by core, that of its end
pub page_end : (d : Bytes) → page_refusal d ≡ 0 → (c : ℕ) → c < (shape_on d).cores → line_at d (1 + length (committed_on d) + c) ≡ end_line d c
page_end d h c l =
    let n = length (committed_on d) in
    let k : 1 + n + c ≡ n + c + 1 = omega arith in
    ap (line_at d) k ∙ page_behind d h (n + c) ∙ line_behind d c ∙ get_or_map_below (end_line d) (shape_on d).cores c [] l

-- past the last line no field
pub line_past : (d : Bytes) (i : ℕ) → length (page_of d) ≤ i → line_at d i ≡ []
unfolding line_at
line_past d i h = get_or-eq_default (page_of d) [] h

-- in column 5 a head line has a digit, and the line of a refusal a blank
pub head_apart : (s : Shape) (n : ℕ) → line_bytes (head_fields s) ≢ line_bytes (refusal_fields n)
head_apart s n e =
    let column : digit_at s.blocks 0 ≡ space =
    unfold line_bytes byte_at shown_at covers numeral head_fields refusal_fields below in ap (λ (b : Bytes). get_or b 4 0) e in
    omega (arith, digit_last s.blocks)

-- so no other disk has a page of that form
pub page_refused_only : (d : Bytes) (n : ℕ) → map line_bytes (page_of d) ≡ line_bytes (refusal_fields n) ∷ [] → page_refusal d ≢ 0
page_refused_only d n h r =
    let e : map line_bytes (head_fields (shape_on d) ∷ body_lines d) ≡ line_bytes (refusal_fields n) ∷ [] =
    sym (ap (map line_bytes) (page_lines d r)) ∙ h in
    head_apart (shape_on d) n (ap (λ (ls : List Bytes). get_or ls 0 []) e)

-- ---- the buffer
-- one of 65 bytes gets the line and 0 is answered
pub lay_done : (fs : List Field) (out : Bytes) → length out ≡ line_size → (lay_number out ≡ 0) × (laid fs out ≡ line_bytes fs)
unfolding lay_number laid
lay_done fs out h = let e : eqb (length out) line_size ≡ true = eq-eqb (length out) line_size h in (rw e refl, rw e refl)

-- one of another length stays as it was and 1 is answered
pub lay_refused : (fs : List Field) (out : Bytes) → length out ≢ line_size → (lay_number out ≡ 1) × (laid fs out ≡ out)
unfolding lay_number laid
lay_refused fs out h = let e : eqb (length out) line_size ≡ false = ne_eqb (length out) line_size h in (rw e refl, rw e refl)

-- ---- the order, and the words
-- a comes before b: it has a lower core, or the same core and a lower number
abbrev pub Before : Committed → Committed → Type 0
Before a b = (a.core < b.core) ⊎ ((a.core ≡ b.core) × (a.number < b.number))

-- each comes before all after it
abbrev pub Ascending : List Committed → Type 0
Ascending [] = Unit {0}
Ascending (e ∷ es) = Each (Before e) es × Ascending es

ascending_append : (xs ys : List Committed) → Ascending xs → Ascending ys → ((x y : Committed) → Memᴰ x xs → Memᴰ y ys → Before x y)
    → Ascending (xs ++ ys)
ascending_append [] ys a b h = b
ascending_append (x ∷ xs) ys a b h = (
  each_append (Before x) xs ys a.0 (mem_each (Before x) ys (λ y m. h x y (mem_head refl) m)),
  ascending_append xs ys a.1 b (λ u v m n. h u v (mem_tail m) n),
)

ascending_get_or : (es : List Committed) → Ascending es → (i j : ℕ) (z : Committed) → i < j → j < length es → Before (get_or es i z) (get_or es j z)
ascending_get_or [] a i j z h l = absurd (omega arith)
ascending_get_or (e ∷ es) a i zero z h l = absurd (omega arith)
ascending_get_or (e ∷ es) a zero (suc j) z h l = each_get_or (Before e) es a.0 j z (omega arith)
ascending_get_or (e ∷ es) a (suc i) (suc j) z h l = ascending_get_or es a.1 i j z (omega arith) (omega arith)

get_or_ascending : (es : List Committed) (z : Committed) → ((i j : ℕ) → i < j → j < length es → Before (get_or es i z) (get_or es j z)) → Ascending es
get_or_ascending [] z h = tt
get_or_ascending (e ∷ es) z h = (
  get_or_each (Before e) es z (λ j l. h 0 (suc j) (omega arith) (omega arith)),
  get_or_ascending es z (λ i j k l. h (suc i) (suc j) (omega arith) (omega arith)),
)

module _ (y : CommitLayout) (s : Shape) (d : Bytes) (tail_at : ℕ → Tail) (most : ℕ → ℕ) where
  abbrev one : ℕ → List Committed
  one c = journal y s d c (tail_at c) (most c)

  -- the numbers of one core's journal follow one another
  one_ascending : (c : ℕ) → Ascending (one c)
  unfolding journal
  one_ascending c =
      get_or_ascending (one c) (oldest [])
      (λ i j h l.
      let known : (n : ℕ) → n < length (one c) → KnownRecord y s d c ((tail_at c).number + n) (get_or (one c) n (oldest [])) =
      λ n k. (records_known y s d c (most c) (tail_at c).number (tail_at c).position s.journal n (oldest []) k).0 in
      let a = known i (omega arith) in
      let b = known j l in
      inr (a.core ∙ sym b.core, omega (arith, a.number, b.number)))

  cores_ascending : (n : ℕ) → Ascending (flat_map one (below n))
  unfolding below flat_map
  cores_ascending zero = tt
  cores_ascending (suc n) =
      subst Ascending (sym (flat_map_append one (below n) (n ∷ [])))
      (ascending_append (flat_map one (below n)) (one n ++ []) (cores_ascending n) (subst Ascending (sym (append-nil (one n))) (one_ascending n)) between)
    where
      between : (x z : Committed) → Memᴰ x (flat_map one (below n)) → Memᴰ z (one n ++ []) → Before x z
      between x z m l =
          let r = mem_flat_map one (below n) m in
          let a = journal_known y s d r.0 (tail_at r.0) (most r.0) x r.2 in
          let b = journal_known y s d n (tail_at n) (most n) z (subst (λ (es : List Committed). Memᴰ z es) (append-nil (one n)) l) in
          inl (omega (arith, a.1.core, b.1.core, mem_below n r.1))

-- what is read of a disk is in order of core and number, strictly
pub committed_ascending : (d : Bytes) → Ascending (committed_on d)
unfolding committed_by journals
committed_ascending d = cores_ascending (layout_on d) (shape_on d) d (tail_on d) (λ (c : ℕ). (shape_on d).journal) (shape_on d).cores

-- the same by index: of two lines the earlier has a lower core, or the same core and a lower number
pub order : (d : Bytes) (i j : ℕ) (z : Committed) → i < j → j < length (committed_on d) → Before (get_or (committed_on d) i z) (get_or (committed_on d) j z)
order d = ascending_get_or (committed_on d) (committed_ascending d)

-- no two of them have one name
pub committed_distinct : (d : Bytes) → Distinct name_of (committed_on d)
unfolding committed_by
committed_distinct d = journals_distinct (layout_on d) (shape_on d) d (tail_on d) (λ (c : ℕ). (shape_on d).journal)

-- the word is kept exactly for those in the valid set
pub kept_valid : (d : Bytes) (e : Committed) → Memᴰ e (committed_on d) → (is_in (valid_on d) (name_of e) ≡ true ↔ Memᴰ e (valid_on d))
unfolding is_in
kept_valid d e m = (there, λ v. mem_any (λ (u : Committed). same_name (name_of e) (name_of u)) v (same_name_refl (name_of e)))
  where
    there : any (λ (u : Committed). same_name (name_of e) (name_of u)) (valid_on d) ≡ true → Memᴰ e (valid_on d)
    there h =
        let r = any_mem (λ (u : Committed). same_name (name_of e) (name_of u)) (valid_on d) h in
        let within : Memᴰ r.0 (committed_on d) = unfold valid_on_by in valid_within in_sequence (layout_on d) (shape_on d) d (tail_on d) (committed_on d) r.0 r.1 in
        mem_cast (committed_distinct d e r.0 m within (same_name_true (name_of e) (name_of r.0) r.2)) r.1

-- paper 02, (d): 'the page counts the cores named', by the disk's layout
abbrev pub cores_on : Bytes → Committed → ℕ
cores_on d e = cores_named (names_of (layout_on d) (shape_on d) d e)

-- the line of one in the valid set, and of one that is not
pub kept_line : (d : Bytes) (e : Committed) → Memᴰ e (committed_on d) → Memᴰ e (valid_on d) → transaction_line d e ≡ transaction_fields true (cores_on d e) e
unfolding transaction_line
kept_line d e m v = rw ((kept_valid d e m).1 v) refl

pub left_line : (d : Bytes) (e : Committed) → Memᴰ e (committed_on d) → (Memᴰ e (valid_on d) → ⊥) → transaction_line d e ≡ transaction_fields false (cores_on d e) e
unfolding transaction_line
left_line d e m v =
    cases (is_in (valid_on d) (name_of e)) (λ t. absurd (v ((kept_valid d e m).0 t))) (λ t. rw t refl)
