-- All journals of a disk that holds what the ledger says, the valid set read from them, and the home blocks that it holds.
-- Both valid sets are the largest of their kind over the same transactions, with the same names and the same tails:
-- so the names of the reader's set are the ledger's set, and so are the blocks.
use Rattle.model.proofs.Base.{ℕ, List, ◌∷◌, ◌-◌, ◌≤◌, ◌<◌, arith, dec_lt, ◌≡◌, sym, ap, subst, fun_ext, ◌∙◌, ◌⊎◌, inl, inr, Bool, true, false}
use Rattle.model.proofs.Base.{not, ◌&&◌, ◌||◌, map, flat_map, Memᴰ, mem_cast, eqb, ltb, not-true, lt-ltb, below, all, any, select, Bytes}
use mathlib.Core.List.Memᴰ
use Rattle.model.specs.Card.{same_name}
use Rattle.model.specs.Journal.{journal, journals, name_of, names_of, blocks_of}
use Rattle.model.specs.Shrink.{AllStay, Within, shrink}
use Rattle.model.specs.Valid.{Order, in_sequence, predecessor, required, required_of, is_in, is_met, names_met, valid_set, blocks_held}
use Rattle.model.specs.Recovery.{shape_on, tail_on, layout_on, committed_by, valid_on_by}
use Rattle.model.specs.declared.Tail.{Tail}
use Rattle.model.specs.declared.Name.{Name}
use Rattle.model.specs.declared.CommitLayout.{CommitLayout}
use Rattle.model.specs.declared.Committed.{Committed}
use Rattle.model.proofs.Encoding.{master_same}
use Rattle.model.proofs.Lists.{and_both, and_left, and_right, or_left, or_right, or_cases, all_mem, mem_all, any_mem, mem_any, mem_flat_map, flat_map_mem, mem_below, below_mem, bool_ext}
use Rattle.model.proofs.Select.{mem_select, select_mem}
use Rattle.model.proofs.Shrink.{Monotone, Named, shrink_closed, shrink_within, shrink_largest, named_monotone, shrunk_names}
use Rattle.model.proofs.Valid.{same_name_true, same_name_refl, below_tail, valid_within}
use Rattle.crash.specs.Book.{is_committed, is_retired, required_in, Book}
use Rattle.crash.specs.Ledger.{Ledger, unretired, met_in, valid_in, blocks_in}
use Rattle.model.proofs.Required.{required_core}
use Rattle.model.proofs.HighestValid.{met_with, met_with_monotone, valid_by_highest}
use Rattle.crash.proofs.Books.Required.{book_required, required_in_book}
use Rattle.crash.proofs.Books.Tests.{clash, any_in, in_any, name_equality}
use Rattle.crash.proofs.Disk.Relation.{WellFormed, JournalStands, DiskStands}
use Rattle.crash.proofs.Disk.LedgerStages.{closed_present, committed_rank}
use Rattle.crash.proofs.Disk.ReadMaster.{shape_read, tail_read, layout_read}
use Rattle.crash.proofs.Disk.RecordFormat.{read_list}
use Rattle.crash.proofs.Disk.ReadRecords.{ReadAsLedger, read_list_has, read_list_is, journal_read, few_records}

-- ---- the ledger's valid set
abbrev below_oldest : Book → Name → Bool
below_oldest k n = ltb n.number (k.oldest n.core)

met_in_monotone : (k : Book) → Monotone (met_in k)
unfolding met_in
met_in_monotone k = named_monotone (required_in k) (λ (t : Name). t) same_name same_name_true same_name_refl (below_oldest k)

pub valid_unretired : (k : Book) (t : Name) → Memᴰ t (valid_in k) → Memᴰ t (unretired k)
unfolding valid_in
valid_unretired k = shrink_within (met_in k) (unretired k)

valid_met : (k : Book) (t n : Name) → Memᴰ t (valid_in k) → Memᴰ n (required_in k t) → (below_oldest k n ≡ true) ⊎ (any (same_name n) (valid_in k) ≡ true)
unfolding valid_in met_in
valid_met k t n m i =
    or_cases (below_oldest k n) (any (same_name n) (valid_in k))
    (all_mem (λ (n : Name). below_oldest k n || any (same_name n) (valid_in k)) (required_in k t) (shrink_closed (met_in k) (unretired k) t m) i)

module _ {y : CommitLayout} {l : Ledger} {d : Bytes} {tail_at : ℕ → Tail} (f : WellFormed l) (z : DiskStands y l d tail_at) where
  -- a name of a core of the disk: below the tail on the disk, and in the ledger
  below_tail_lem : (n : Name) → n.core < l.shape.cores → ltb n.number (tail_at n.core).number ≡ below_oldest l.book n
  below_tail_lem n h = ap (ltb n.number) (z.journals n.core h).number

  each_core : (t n : Name) → t.core < l.shape.cores → Memᴰ n (required in_sequence t (l.book.entry t).names) → n.core < l.shape.cores
  each_core t n h = required_core in_sequence t (l.book.entry t).names l.shape.cores h (λ u m. (f.limits u (f.named t u m)).core) n

  -- the one before the first since the card came up is below the tail
  required_or_below : (t n : Name) → t.core < l.shape.cores → Memᴰ n (required in_sequence t (l.book.entry t).names)
      → Memᴰ n (required_in l.book t) ⊎ (below_oldest l.book n ≡ true)
  required_or_below t n c m =
      let r = f.ranks t.core c in
      elim (required_in_book l.book t n (subst (λ (o : Order). Memᴰ n (required o t (l.book.entry t).names)) (sym f.sequence) m)) [
        | inl i ↦ inl i
        | inr e ↦ inr (subst (λ (x : Name). below_oldest l.book x ≡ true) (sym e.0)
            (lt-ltb (t.number - 1) (l.book.oldest t.core) (omega (arith, e.1, r.below.from_first, r.below.positive))))
      ]

  -- what the book asks for, in sequence
  book_sequence : (t n : Name) → Memᴰ n (required_in l.book t) → Memᴰ n (required in_sequence t (l.book.entry t).names)
  book_sequence t n j = subst (λ (o : Order). Memᴰ n (required o t (l.book.entry t).names)) f.sequence (book_required l.book t n j)

  met_or_below : (t n : Name) → Memᴰ t (valid_in l.book) → Memᴰ n (required_in l.book t) ⊎ (below_oldest l.book n ≡ true)
      → (below_oldest l.book n ≡ true) ⊎ (any (same_name n) (valid_in l.book) ≡ true)
  met_or_below t n m (inl i) = valid_met l.book t n m i
  met_or_below t n m (inr b) = inl b

  module _ (most : ℕ → ℕ) (enough : (c : ℕ) → c < l.shape.cores → l.book.uncommitted c - l.book.oldest c ≤ most c) where
    -- ---- all journals
    journals_listed : (e : Committed) → Memᴰ e (journals y l.shape d tail_at most)
        → (e.core < l.shape.cores) × Memᴰ e (read_list l e.core (tail_at e.core))
    unfolding journals
    journals_listed e m =
        let r = mem_flat_map (λ (c : ℕ). journal y l.shape d c (tail_at c) (most c)) (below l.shape.cores) m in
        let h = mem_below l.shape.cores r.1 in
        let x : Memᴰ e (read_list l r.0 (tail_at r.0)) = rw (journal_read f z r.0 h (most r.0) (enough r.0 h)) at r.2 in
        let c : e.core ≡ r.0 = (read_list_is f z r.0 h e x).core in
        subst (λ (i : ℕ). (i < l.shape.cores) × Memᴰ e (read_list l i (tail_at i))) (sym c) (h, x)

    pub listed_journals : (e : Committed) → e.core < l.shape.cores → Memᴰ e (read_list l e.core (tail_at e.core))
        → Memᴰ e (journals y l.shape d tail_at most)
    unfolding journals
    listed_journals e h m =
        flat_map_mem (λ (c : ℕ). journal y l.shape d c (tail_at c) (most c)) (below_mem l.shape.cores e.core h)
        (rw (journal_read f z e.core h (most e.core) (enough e.core h)) m)

    pub journals_are : (e : Committed) → Memᴰ e (journals y l.shape d tail_at most) → ReadAsLedger y l d e.core e
    journals_are e m = let r = journals_listed e m in read_list_is f z e.core r.0 e r.1

    -- ---- they are the ledger's committed unretired transactions
    read_unretired : (e : Committed) → Memᴰ e (journals y l.shape d tail_at most) → Memᴰ (name_of e) (unretired l.book)
    unfolding unretired
    read_unretired e m =
        let u = (journals_are e m).unretired in
        mem_select _ l.book.opened (name_of e) (f.known (name_of e) (closed_present _ u.is_closed_lem)) (and_both u.is_committed_lem (ap not u.not_retired))

    unretired_read : (t : Name) → Memᴰ t (unretired l.book) → (e : Committed) × Memᴰ e (journals y l.shape d tail_at most) × (name_of e ≡ t)
    unfolding unretired
    unretired_read t m =
        let g = (l.book.entry t).stage in
        let h = (select_mem (λ (t : Name). is_committed (l.book.entry t).stage && not (is_retired (l.book.entry t).stage)) l.book.opened t m).1 in
        let a : is_committed g ≡ true = and_left (is_committed g) (not (is_retired g)) h in
        let b : is_retired g ≡ false = not-true (is_retired g) (and_right (is_committed g) (not (is_retired g)) h) in
        elim (dec_lt t.core l.shape.cores) [
          | yes c ↦ (let i = committed_rank (f.ranks t.core c) t.number a b in
              let r = read_list_has l t.core (tail_at t.core) t.number i.0 i.1 in
              let e = subst (λ (i : ℕ). (i < l.shape.cores) × Memᴰ r.0 (read_list l i (tail_at i))) (sym (ap (λ (n : Name). n.core) r.2)) (c, r.1) in
              (r.0, listed_journals r.0 e.0 e.1, r.2))
          | no c ↦ clash a (ap is_committed (f.far t (omega arith)))
        ]

    -- ---- the valid set
    abbrev read : List Committed
    read = journals y l.shape d tail_at most

    -- what a transaction that was read lists in the ledger
    abbrev listed_by : Committed → List Name
    listed_by e = (l.book.entry (name_of e)).names

    -- by numbers it is the set that the whole lists give: in it is with each transaction the one before
    valid_listed : valid_set in_sequence y l.shape d tail_at read ≡ shrink (met_with tail_at listed_by) read
    unfolding valid_set names_met required_of required
    valid_listed =
        sym (valid_by_highest tail_at read listed_by (names_of y l.shape d) (λ e m. (journals_are e m).names)
        (λ e m n i. let b = f.limits n (f.named (name_of e) n i) in (omega (arith, b.core, f.range.few_cores), b.low)))

    listed_met : (e : Committed) → Memᴰ e (shrink (met_with tail_at listed_by) read) → (n : Name) → Memᴰ n (required in_sequence (name_of e) (listed_by e))
        → (below_tail tail_at n ≡ true) ⊎ Named name_of (shrink (met_with tail_at listed_by) read) n
    unfolding is_met is_in required
    listed_met = shrunk_names (λ (e : Committed). predecessor (name_of e) ∷ listed_by e) name_of same_name same_name_true same_name_refl (below_tail tail_at) read

    pub valid_name : (e : Committed) → Memᴰ e (valid_set in_sequence y l.shape d tail_at read) → Memᴰ (name_of e) (valid_in l.book)
    unfolding valid_in met_in
    valid_name e m =
        let vs = shrink (met_with tail_at listed_by) read in
        let k = l.book in
        let ts = map name_of vs in
        let inside : Within vs read = shrink_within (met_with tail_at listed_by) read in
        let within : Within ts (unretired k) =
        λ t i. let r = Memᴰ.of_map name_of vs i in mem_cast (sym r.2) (read_unretired r.0 (inside r.0 r.1)) in
        let closed : AllStay (met_in k) ts =
        λ t i.
        let r = Memᴰ.of_map name_of vs i in
        let c : (name_of r.0).core < l.shape.cores = (journals_listed r.0 (inside r.0 r.1)).0 in
        subst (λ (t : Name). all (λ (n : Name). below_oldest k n || any (same_name n) ts) (required_in k t) ≡ true) r.2
        (mem_all (λ (n : Name). below_oldest k n || any (same_name n) ts) (required_in k (name_of r.0))
        (λ n j.
        let q : Memᴰ n (required in_sequence (name_of r.0) (listed_by r.0)) = book_sequence (name_of r.0) n j in
        elim (listed_met r.0 r.1 n q) [
          | inl b ↦ or_left (any (same_name n) ts) (sym (below_tail_lem n (each_core (name_of r.0) n c q)) ∙ b)
          | inr u ↦ or_right (below_oldest k n) (in_any name_equality (mem_cast u.2 (Memᴰ.map name_of u.1)))
        ])) in
        shrink_largest (met_in k) (met_in_monotone k) (unretired k) ts within closed (name_of e) (Memᴰ.map name_of (rw valid_listed at m))

    name_valid : (e : Committed) → Memᴰ e read → Memᴰ (name_of e) (valid_in l.book) → Memᴰ e (valid_set in_sequence y l.shape d tail_at read)
    unfolding is_met is_in required
    name_valid e m v =
        let k = l.book in
        let test : Committed → Bool = λ x. any (same_name (name_of x)) (valid_in k) in
        let ss = select test read in
        let closed : AllStay (met_with tail_at listed_by) ss =
        λ x i.
        let r = select_mem test read x i in
        let c : (name_of x).core < l.shape.cores = (journals_listed x r.0).0 in
        mem_all (is_met tail_at ss) (predecessor (name_of x) ∷ listed_by x)
        (λ n q.
        elim (met_or_below (name_of x) n (any_in name_equality (name_of x) (valid_in k) r.1) (required_or_below (name_of x) n c q)) [
          | inl b ↦ or_left (is_in ss n) (below_tail_lem n (each_core (name_of x) n c q) ∙ b)
          | inr u ↦ or_right (ltb n.number (tail_at n.core).number)
              (let w = unretired_read n (valid_unretired k n (any_in name_equality n (valid_in k) u)) in
              mem_any (λ (g : Committed). same_name n (name_of g)) (mem_select test read w.0 w.1 (rw w.2 u)) (rw w.2 (same_name_refl n)))
        ]) in
        rw valid_listed
        (shrink_largest (met_with tail_at listed_by) (met_with_monotone tail_at listed_by) read ss (λ x i. (select_mem test read x i).0) closed e (mem_select test read e m (in_any name_equality v)))

    -- a valid transaction of the ledger is read, as a valid one
    pub valid_read : (t : Name) → Memᴰ t (valid_in l.book)
        → (e : Committed) × Memᴰ e (valid_set in_sequence y l.shape d tail_at read) × (name_of e ≡ t)
    valid_read t v =
        let r = unretired_read t (valid_unretired l.book t v) in
        (r.0, name_valid r.0 r.1 (rw r.2 v), r.2)

    pub valid_are : (e : Committed) → Memᴰ e (valid_set in_sequence y l.shape d tail_at read) → ReadAsLedger y l d e.core e
    valid_are e m = journals_are e (valid_within in_sequence y l.shape d tail_at (journals y l.shape d tail_at most) e m)

    pub valid_same : (n : Name) → is_in (valid_set in_sequence y l.shape d tail_at read) n ≡ any (same_name n) (valid_in l.book)
    unfolding is_in
    valid_same n =
        let vs = valid_set in_sequence y l.shape d tail_at read in
        bool_ext
        (λ h. let r = any_mem (λ (e : Committed). same_name n (name_of e)) vs h in
        in_any name_equality (mem_cast (same_name_true n (name_of r.0) r.2) (valid_name r.0 r.1)))
        (λ h. let r = valid_read n (any_in name_equality n (valid_in l.book) h) in
        mem_any (λ (e : Committed). same_name n (name_of e)) r.1 (rw r.2 (same_name_refl n)))

    -- ---- the home blocks held in it
    blocks_same : blocks_held l.shape d (valid_set in_sequence y l.shape d tail_at read) ≡ blocks_in l.shape.blocks l.book
    unfolding blocks_held blocks_in
    blocks_same =
        let vs = valid_set in_sequence y l.shape d tail_at read in
        let k = l.book in
        let holds : ℕ → Name → Bool = λ b t. any (eqb b) (k.entry t).blocks in
        ap (λ (p : ℕ → Bool). select p (below l.shape.blocks))
        (fun_ext (λ b.
        bool_ext
        (λ h.
        let x = any_mem (eqb b) (flat_map (blocks_of l.shape d) vs) h in
        let r = mem_flat_map (blocks_of l.shape d) vs x.1 in
        mem_any (holds b) (valid_name r.0 r.1) (mem_any (eqb b) (rw (valid_are r.0 r.1).blocks at r.2) x.2))
        (λ h.
        let t = any_mem (holds b) (valid_in k) h in
        let x = any_mem (eqb b) (k.entry t.0).blocks t.2 in
        let r = valid_read t.0 t.1 in
        mem_any (eqb b) (flat_map_mem (blocks_of l.shape d) r.1 (rw ((valid_are r.0 r.1).blocks, r.2) x.1)) x.2)))

-- ---- as RECOVER reads: from the master's own shape and tails
module _ {y : CommitLayout} {l : Ledger} {d : Bytes} {tail_at : ℕ → Tail} (f : WellFormed l) (z : DiskStands y l d tail_at) where
  pub own_tails : DiskStands y l d (tail_on d)
  own_tails =
      record {
        size = z.size;
        bytes = z.bytes;
        master = z.master ∙ master_same y l.shape tail_at (tail_on d) (λ c h. sym (tail_read f z c h));
        numbered = z.numbered;
        journals = λ c h. subst (JournalStands l d c) (sym (tail_read f z c h)) (z.journals c h);
      }

  pub valid_on : valid_on_by in_sequence (layout_on d) d ≡ valid_set in_sequence y l.shape d (tail_on d) (journals y l.shape d (tail_on d) (λ (c : ℕ). l.shape.journal))
  unfolding valid_on_by committed_by
  valid_on = rw (layout_read f z, shape_read f z)

  pub blocks_on : blocks_held (shape_on d) d (valid_on_by in_sequence (layout_on d) d) ≡ blocks_in l.shape.blocks l.book
  blocks_on = rw (shape_read f z, valid_on) (blocks_same f own_tails (λ (c : ℕ). l.shape.journal) (few_records f z))
