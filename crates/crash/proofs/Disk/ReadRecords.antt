-- A journal that holds what the ledger says is read as the ledger's transactions stored whole since its tail: their records
-- stand one after the other, then no commit of the next number stands anywhere, so the reading ends there. `journals_read` is
-- demand 2 for all journals of a disk.
use Rattle.model.proofs.Base.{ℕ, zero, suc, ◌+◌, ◌-◌, ◌*◌, ◌%◌, ◌≤◌, ◌<◌, arith, ℕ_discrete, add-one, add-zero, ◌≡◌, refl, sym}
use Rattle.model.proofs.Base.{ap, subst, ◌∙◌, inl, inr, true, false, List, [], ◌∷◌, ◌++◌, map, flat_map, append_assoc, Memᴰ}
use Rattle.model.proofs.Base.{mem_head, mem_tail, mem_not_nil, mem_cases_cons, length, get_or, length-map}
use Rattle.model.proofs.Base.{length-append, list_get_or_map, list_get_or_append, ext_get_or, below, Bytes}
use lib.Seq.{get_or-append-add}
use Rattle.model.specs.Card.{new_name}
use Rattle.model.specs.Layout.{Tag, new_tag, has_head, highest_in, names_from}
use Rattle.model.specs.Journal.{journal_at, record_at, records_from, journal, name_of, tags_of, blocks_of, names_of, image_of}
use Rattle.model.specs.declared.Shape.{Shape}
use Rattle.model.specs.declared.Tail.{Tail}
use Rattle.model.specs.declared.Name.{Name}
use Rattle.model.specs.declared.CommitLayout.{CommitLayout}
use Rattle.model.specs.declared.CommitLayout.TheVariants.{Numbers}
use Rattle.model.specs.declared.Committed.{Committed}
use Rattle.std.specs.Prelude.{Some}
use Rattle.model.proofs.Lists.{get_or_mem, flat_map_append, length_below, get_or_map_below}
use Rattle.model.proofs.Journal.{encoded_record as storedBlocks, Stands, as_read, journal_wrap, record_read, tags_read, names_read, image_read, records_miss, records_hit, miss_commit, record_stands}
use Rattle.model.proofs.Encoding.{no_commit}
use Rattle.crash.specs.Book.{is_closed, Book}
use Rattle.crash.specs.Ledger.{Ledger, record_blocks, stored_of, stored_since, record_tags, record_of}
use Rattle.crash.specs.Claims.{read_as, JournalsRead}
use Rattle.crash.proofs.Books.BookEntries.{oldest_name}
use Rattle.crash.proofs.Disk.Relation.{WellFormed, contents, DiskStands}
use Rattle.crash.proofs.Disk.LedgerStages.{Unretired, stored_unretired}
use Rattle.crash.proofs.Disk.ReadMaster.{shape_read, tail_read, layout_read}
use Rattle.crash.proofs.Disk.RecordFormat.{read_record, read_from, read_list, records_of, length_record_tags, get_or_record_tags, record_sound, record_images, length_record, as_read_lem}

-- ---- blocks that stand one after the other, from a position on
module _ (s : Shape) (d : Bytes) (c : ℕ) where
  abbrev BlocksStand : ℕ → List Bytes → Type 0
  BlocksStand p xs = (q : ℕ) → q < length xs → journal_at s d c (p + q) ≡ get_or xs q []

  stand_left : (p : ℕ) (xs ys : List Bytes) → BlocksStand p (xs ++ ys) → BlocksStand p xs
  stand_left p xs ys z q h = z q (omega (arith, length-append xs ys)) ∙ list_get_or_append xs ys [] q h

  stand_right : (p : ℕ) (xs ys : List Bytes) → BlocksStand p (xs ++ ys) → BlocksStand (p + length xs) ys
  stand_right p xs ys z q h =
      let e : p + length xs + q ≡ p + (length xs + q) = omega arith in
      rw e (z (length xs + q) (omega (arith, length-append xs ys)) ∙ get_or-append-add xs ys q [])

  stand_wrap : (p : ℕ) (xs : List Bytes) → BlocksStand p xs → BlocksStand (p % s.journal) xs
  unfolding journal_at
  stand_wrap p xs z q h = rw (journal_wrap s c p q) (z q h)

-- ---- the records of a journal
records_snoc : (l : Ledger) (c i n : ℕ) → records_of l c i n ++ (record_of l (new_name c (i + n)) ++ []) ≡ records_of l c i (suc n)
unfolding records_of
records_snoc l c i zero = rw (add-zero i)
records_snoc l c i (suc n) =
    let e : i + suc n ≡ suc i + n = omega arith in
    append_assoc (record_of l (new_name c i)) (records_of l c (suc i) n) (record_of l (new_name c (i + suc n)) ++ [])
    ∙ ap (λ (x : List Bytes). record_of l (new_name c i) ++ x) (rw e (records_snoc l c (suc i) n))

pub records_flat : (l : Ledger) (c i n : ℕ) → flat_map (λ (j : ℕ). record_of l (new_name c (i + j))) (below n) ≡ records_of l c i n
unfolding below flat_map records_of
records_flat l c i zero = refl
records_flat l c i (suc n) =
    flat_map_append (λ (j : ℕ). record_of l (new_name c (i + j))) (below n) (n ∷ [])
    ∙ ap (λ (x : List Bytes). x ++ (record_of l (new_name c (i + n)) ++ [])) (records_flat l c i n)
    ∙ records_snoc l c i n

-- blocks of the records of closed transactions
blocks_two : (k : Book) (c i n : ℕ) → 2 * n ≤ record_blocks k c i n
unfolding record_blocks
blocks_two k c i zero = omega arith
blocks_two k c i (suc n) = omega (arith, blocks_two k c (suc i) n)

blocks_more : (k : Book) (c i m n : ℕ) → m ≤ n → record_blocks k c i m ≤ record_blocks k c i n
unfolding record_blocks
blocks_more k c i zero n h = omega arith
blocks_more k c i (suc m) zero h = absurd (omega arith)
blocks_more k c i (suc m) (suc n) h = omega (arith, blocks_more k c (suc i) m n (omega arith))

-- the numbers from i on are of closed transactions
abbrev ClosedFrom : Ledger → ℕ → ℕ → ℕ → Type 0
ClosedFrom l c i n = (j : ℕ) → i ≤ j → j < i + n → is_closed (l.book.entry (new_name c j)).stage ≡ true

pub length_records : {l : Ledger} → WellFormed l → (c i n : ℕ) → ClosedFrom l c i n → length (records_of l c i n) ≡ record_blocks l.book c i n
unfolding records_of record_blocks
length_records f c i zero g = refl
length_records {l} f c i (suc n) g =
    length-append (record_of l (new_name c i)) (records_of l c (suc i) n)
    ∙ omega (arith, length_record f (new_name c i) (g i (omega arith) (omega arith)), length_records f c (suc i) n (λ j a b. g j (omega arith) (omega arith)))

module _ (y : CommitLayout) {l : Ledger} (f : WellFormed l) (d : Bytes) (c : ℕ) where
  abbrev Standing : ℕ → ℕ → ℕ → Type 0
  Standing i p n = ClosedFrom l c i n × BlocksStand l.shape d c p (records_of l c i n)

  first_stands : (i p n : ℕ) → Standing i p (suc n)
      → Stands l.shape d c p i (record_tags l (new_name c i)) (l.stamp (new_name c i)) (highest_in (l.book.entry (new_name c i)).names) (l.images (new_name c i))
  unfolding records_of
  first_stands i p n z =
      let t = new_name c i in
      let h = z.0 i (omega arith) (omega arith) in
      let size = length_record f t h in
      let e = length_record_tags l t in
      let stand = stand_left l.shape d c p (record_of l t) (records_of l c (suc i) n) z.1 in
      record_stands ((f.frozen t h).count ∙ sym e) (unfold record_of storedBlocks in (λ q g. stand q (omega arith)))

  rest_stands : (i p n : ℕ) → Standing i p (suc n) → Standing (suc i) ((p + (length (l.book.entry (new_name c i)).blocks + 2)) % l.shape.journal) n
  unfolding records_of
  rest_stands i p n z = (
    λ j a b. z.0 j (omega arith) (omega arith),
    stand_wrap l.shape d c (p + (length (l.book.entry (new_name c i)).blocks + 2)) (records_of l c (suc i) n)
        (rw (← (length_record f (new_name c i) (z.0 i (omega arith) (omega arith)))) (stand_right l.shape d c p (record_of l (new_name c i)) (records_of l c (suc i) n) z.1)),
  )

  -- the reading of n records, with none of the next number
  records_are : (most i p left n : ℕ) → n ≤ most → (0 < n → y ≡ Numbers) → Standing i p n → record_blocks l.book c i n ≤ left
      → ((q : ℕ) → has_head 2 (i + n) (journal_at l.shape d c q) ≡ false) → records_from most y l.shape d c i p left ≡ read_from l c i p n
  unfolding read_from record_blocks
  records_are most i p left zero h y_is z r g =
      let none : (q : ℕ) → has_head 2 i (journal_at l.shape d c q) ≡ false = λ q. rw add-zero at (g q) in
      records_miss y l.shape d c i p left most (miss_commit y l.shape d c i p left (no_commit y l.shape i _ (none _)))
  records_are zero i p left (suc n) h y_is z r g = absurd (omega arith)
  records_are (suc most) i p left (suc n) h y_is z r g =
      let t = new_name c i in
      let x = z.0 i (omega arith) (omega arith) in
      let e = length_record_tags l t in
      let hit : record_at y l.shape d c i p left ≡ Some (read_record l t p) =
      subst (λ (y : CommitLayout). record_at y l.shape d c i p left ≡ Some (read_record l t p)) (sym (y_is (omega arith)))
      (record_read (record_sound f t x) (first_stands i p n z) left (omega arith) ∙ ap Some (as_read_lem l t p)) in
      let s : i + suc n ≡ suc i + n = omega arith in
      records_hit y l.shape d c i p left most (read_record l t p) hit
      ∙ rw add-one
      (ap (λ (r : List Committed). read_record l t p ∷ r)
      (records_are most (suc i) _ (left - (length (l.book.entry t).blocks + 2)) n (omega arith) (λ _. y_is (omega arith)) (rest_stands i p n z) (omega arith) (λ q. rw s at (g q))))

-- ---- one record that is read
-- what the ledger has for its transaction is what its record gives
pub record ReadAsLedger (y : CommitLayout) (l : Ledger) (d : Bytes) (c : ℕ) (e : Committed) : Type 0 where
  pub core : e.core ≡ c
  pub unretired : Unretired (l.book.entry (name_of e)).stage
  pub count : e.count ≡ length (l.book.entry (name_of e)).blocks
  pub stamp : e.stamp ≡ l.stamp (name_of e)
  pub blocks : blocks_of l.shape d e ≡ (l.book.entry (name_of e)).blocks
  pub names : names_of y l.shape d e ≡ names_from (highest_in (l.book.entry (name_of e)).names)
  pub images : (i : ℕ) → i < e.count → image_of l.shape d e i ≡ get_or (l.images (name_of e)) i []

record_tags_blocks : (l : Ledger) (t : Name) → map (λ (h : Tag). h.block) (record_tags l t) ≡ (l.book.entry t).blocks
record_tags_blocks l t =
    let n = length_record_tags l t in
    let m = length-map (record_tags l t) (λ (h : Tag). h.block) in
    ext_get_or 0 (map (λ (h : Tag). h.block) (record_tags l t)) (l.book.entry t).blocks (m ∙ n)
    (λ i h. list_get_or_map (λ (h : Tag). h.block) (record_tags l t) i (new_tag 0 0) ∙ ap (λ (h : Tag). h.block) (get_or_record_tags l t i (omega arith)))

blocks_read : (l : Ledger) (t : Name) (d : Bytes) (e : Committed) → tags_of l.shape d e ≡ record_tags l t → blocks_of l.shape d e ≡ (l.book.entry t).blocks
unfolding blocks_of
blocks_read l t d e h = ap (map (λ (h : Tag). h.block)) h ∙ record_tags_blocks l t

module _ (y : CommitLayout) {l : Ledger} (f : WellFormed l) (d : Bytes) (c : ℕ) (in_range_lem : c < l.shape.cores) where
  record_is : (i p : ℕ) → y ≡ Numbers → l.book.oldest c ≤ i → i < l.book.uncommitted c
      → Stands l.shape d c p i (record_tags l (new_name c i)) (l.stamp (new_name c i)) (highest_in (l.book.entry (new_name c i)).names) (l.images (new_name c i))
      → ReadAsLedger y l d c (read_record l (new_name c i) p)
  record_is i p y_is a b st =
      let t = new_name c i in
      let u = stored_unretired (f.ranks c in_range_lem) i a b in
      let x = record_sound f t u.is_closed_lem in
      let e = as_read_lem l t p in
      let held : tags_of l.shape d (read_record l t p) ≡ record_tags l t = subst (λ (r : Committed). tags_of l.shape d r ≡ record_tags l t) e (tags_read x st) in
      record {
        core = refl;
        unretired = u;
        count = refl;
        stamp = refl;
        blocks = blocks_read l t d (read_record l t p) held;
        names = ap (λ (y : CommitLayout). names_of y l.shape d (read_record l t p)) y_is ∙ names_is (read_record l t p) e;
        images =
            λ j h.
            subst (λ (r : Committed). image_of l.shape d r j ≡ get_or (l.images t) j []) e
            (image_read x st (record_images f t u.is_closed_lem) j (omega (arith, length_record_tags l t)));
      }
    where
      names_is : (r : Committed) → as_read c p i (record_tags l (new_name c i)) (l.stamp (new_name c i)) ≡ r
          → names_of Numbers l.shape d r ≡ names_from (highest_in (l.book.entry (new_name c i)).names)
      names_is r e =
          let x = record_sound f (new_name c i) (stored_unretired (f.ranks c in_range_lem) i a b).is_closed_lem in
          subst (λ (r : Committed). names_of Numbers l.shape d r ≡ names_from (highest_in (l.book.entry (new_name c i)).names)) e
          (names_read x st)

  each_is : (i p n : ℕ) → (0 < n → y ≡ Numbers) → Standing y f d c i p n → l.book.oldest c ≤ i → i + n ≤ l.book.uncommitted c
      → (e : Committed) → Memᴰ e (read_from l c i p n) → ReadAsLedger y l d c e
  unfolding read_from
  each_is i p zero y_is st a b e m = absurd (mem_not_nil m)
  each_is i p (suc n) y_is st a b e m =
      elim (mem_cases_cons m) [
        | inl q ↦ subst (λ (r : Committed). ReadAsLedger y l d c r) (sym q) (record_is i p (y_is (omega arith)) a (omega arith) (first_stands y f d c i p n st))
        | inr r ↦ each_is (suc i) _ n (λ _. y_is (omega arith)) (rest_stands y f d c i p n st) (omega arith) (omega arith) e r
      ]

module _ (l : Ledger) (c : ℕ) where
  length_from : (i p n : ℕ) → length (read_from l c i p n) ≡ n
  unfolding read_from
  length_from i p zero = refl
  length_from i p (suc n) = ap suc (length_from (suc i) _ n)

  from_at : (i p n j : ℕ) (e : Committed) → j < n → (get_or (read_from l c i p n) j e).number ≡ i + j
  unfolding read_from
  from_at i p zero j e h = absurd (omega arith)
  from_at i p (suc n) zero e h = omega arith
  from_at i p (suc n) (suc j) e h = from_at (suc i) _ n j e (omega arith) ∙ omega arith

  from_has : (i p n j : ℕ) → i ≤ j → j < i + n → (e : Committed) × Memᴰ e (read_from l c i p n) × (name_of e ≡ new_name c j)
  unfolding read_from
  from_has i p zero j a b = absurd (omega arith)
  from_has i p (suc n) j a b =
      elim (ℕ_discrete i j) [
        | yes e ↦ (read_record l (new_name c i) p, mem_head refl, ap (new_name c) e)
        | no ne ↦ (let r = from_has (suc i) ((p + (length (l.book.entry (new_name c i)).blocks + 2)) % l.shape.journal) n j (omega arith) (omega arith) in
            (r.0, mem_tail r.1, r.2))
      ]

  module _ (t : Tail) where
    pub length_read_list : length (read_list l c t) ≡ l.book.uncommitted c - l.book.oldest c
    unfolding read_list
    length_read_list = length_from (l.book.oldest c) t.position (l.book.uncommitted c - l.book.oldest c)

    -- the records are in order of number
    read_list_at : (j : ℕ) (e : Committed) → j < l.book.uncommitted c - l.book.oldest c → (get_or (read_list l c t) j e).number ≡ l.book.oldest c + j
    unfolding read_list
    read_list_at j e h = from_at (l.book.oldest c) t.position (l.book.uncommitted c - l.book.oldest c) j e h

    -- each transaction stored whole has its record
    pub read_list_has : (i : ℕ) → l.book.oldest c ≤ i → i < l.book.uncommitted c
        → (e : Committed) × Memᴰ e (read_list l c t) × (name_of e ≡ new_name c i)
    unfolding read_list
    read_list_has i a b = from_has (l.book.oldest c) t.position (l.book.uncommitted c - l.book.oldest c) i a (omega arith)

    -- the oldest comes first
    pub read_list_first : l.book.oldest c < l.book.uncommitted c
        → read_list l c t
        ≡ read_record l (oldest_name c l.book) t.position
        ∷ read_from l c (suc (l.book.oldest c)) ((t.position + (length (l.book.entry (oldest_name c l.book)).blocks + 2)) % l.shape.journal)
        (l.book.uncommitted c - suc (l.book.oldest c))
    unfolding read_list read_from
    read_list_first h =
        let e : l.book.uncommitted c - l.book.oldest c ≡ suc (l.book.uncommitted c - suc (l.book.oldest c)) = omega arith in
        ap (read_from l c (l.book.oldest c) t.position) e

-- ---- the reading of a journal
module _ {y : CommitLayout} {l : Ledger} {d : Bytes} {tail_at : ℕ → Tail} (f : WellFormed l) (z : DiskStands y l d tail_at) (c : ℕ) (in_range_lem : c < l.shape.cores) where
  abbrev count_of : ℕ
  count_of = l.book.uncommitted c - l.book.oldest c

  pub stored_closed : ClosedFrom l c (l.book.oldest c) count_of
  stored_closed j a b = (stored_unretired (f.ranks c in_range_lem) j a (omega arith)).is_closed_lem

  journal_standing : Standing y f d c (l.book.oldest c) (tail_at c).position count_of
  journal_standing = (
    stored_closed,
    (unfold contents in
        stand_left l.shape d c (tail_at c).position (records_of l c (l.book.oldest c) count_of) _
        (rw (records_flat l c (l.book.oldest c) count_of) at (z.journals c in_range_lem).stands)),
  )

  -- no record is shorter than two blocks, and all fit: J bounds their number
  pub few_records : l.book.uncommitted c - l.book.oldest c ≤ l.shape.journal
  few_records =
      let k = l.book in
      omega (
        arith,
        (f.ranks c in_range_lem).mid,
        (z.journals c in_range_lem).room,
        blocks_two k c (k.oldest c) count_of,
        blocks_more k c (k.oldest c) count_of (k.next c - k.oldest c) (omega (arith, (f.ranks c in_range_lem).mid)),
      )

  pub journal_read : (most : ℕ) → l.book.uncommitted c - l.book.oldest c ≤ most → journal y l.shape d c (tail_at c) most ≡ read_list l c (tail_at c)
  unfolding journal read_list
  journal_read most h =
      let k = l.book in
      let j = z.journals c in_range_lem in
      let r = f.ranks c in_range_lem in
      rw j.number
      (records_are y f d c most (k.oldest c) (tail_at c).position l.shape.journal count_of h (λ g. z.numbered c in_range_lem (omega arith)) journal_standing
      (omega (arith, r.mid, j.room, blocks_more k c (k.oldest c) count_of (k.next c - k.oldest c) (omega (arith, r.mid))))
      (λ q. j.clear (k.oldest c + count_of) q (omega (arith, r.low))))

  pub read_list_is : (e : Committed) → Memᴰ e (read_list l c (tail_at c)) → ReadAsLedger y l d c e
  unfolding read_list
  read_list_is =
      each_is y f d c in_range_lem (l.book.oldest c) (tail_at c).position count_of (λ g. z.numbered c in_range_lem (omega arith)) journal_standing (omega arith) (omega (arith, (f.ranks c in_range_lem).low))

-- ---- demand 2
stored_as : {y : CommitLayout} {l : Ledger} (f : WellFormed l) (d : Bytes) (c : ℕ) (e : Committed) → ReadAsLedger y l d c e → read_as y l.shape d e ≡ stored_of l (name_of e)
unfolding read_as stored_of
stored_as {l = l} f d c e r =
    let t = name_of e in
    let z = f.frozen t r.unretired.is_closed_lem in
    let n : length (map (image_of l.shape d e) (below e.count)) ≡ e.count = length-map (below e.count) (image_of l.shape d e) ∙ length_below e.count in
    let i : map (image_of l.shape d e) (below e.count) ≡ l.images t =
    ext_get_or [] (map (image_of l.shape d e) (below e.count)) (l.images t) (n ∙ r.count ∙ sym z.count)
    (λ i h. get_or_map_below (image_of l.shape d e) e.count i [] (omega arith) ∙ r.images i (omega arith)) in
    rw (r.blocks, i, r.names, r.stamp)

module _ {y : CommitLayout} {l : Ledger} {d : Bytes} {tail_at : ℕ → Tail} (f : WellFormed l) (z : DiskStands y l d tail_at) where
  list_stored : (c : ℕ) → c < l.shape.cores → map (read_as y l.shape d) (read_list l c (tail_at c)) ≡ stored_since l c
  unfolding stored_since
  list_stored c h =
      let none : Committed = record { core = 0; number = 0; position = 0; count = 0; stamp = 0 } in
      let es = read_list l c (tail_at c) in
      let o = l.book.oldest c in
      let n = l.book.uncommitted c - o in
      let k = length_read_list l c (tail_at c) in
      let m = length-map es (read_as y l.shape d) in
      ext_get_or (read_as y l.shape d none) (map (read_as y l.shape d) es) (map (λ (i : ℕ). stored_of l (new_name c (o + i))) (below n))
      (m ∙ k ∙ sym (length-map (below n) (λ (i : ℕ). stored_of l (new_name c (o + i))) ∙ length_below n))
      (λ i g.
      let b : i < n = omega arith in
      let e = get_or es i none in
      let x = read_list_is f z c h e (get_or_mem es i none (omega arith)) in
      let same : name_of e ≡ new_name c (o + i) = rw (x.core, read_list_at l c (tail_at c) i none b) in
      list_get_or_map (read_as y l.shape d) es i none
      ∙ stored_as f d c e x
      ∙ ap (stored_of l) same
      ∙ sym (get_or_map_below (λ (i : ℕ). stored_of l (new_name c (o + i))) n i (read_as y l.shape d none) b))

  pub journals_read : JournalsRead l d
  journals_read =
      record {
        shape = shape_read f z;
        tails = λ c h. ap (λ (t : Tail). t.number) (tail_read f z c h) ∙ (z.journals c h).number;
        records = λ c h. rw (layout_read f z, tail_read f z c h, journal_read f z c h l.shape.journal (few_records f z c h)) (list_stored c h);
      }
