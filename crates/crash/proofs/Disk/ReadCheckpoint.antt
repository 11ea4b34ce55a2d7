-- On a card that is up, what CHECKPOINT and RETIRE read is what the ledger says, and each of their conditions 31 to 33 is the ledger's.
-- The card's count of committed ones is the ledger's, so the journals are read whole; the closed ones that still store
-- stand in the card. Every closed unretired transaction is one of these two: so 33 looks at the same transactions.
use Rattle.model.proofs.Base.{ℕ, ◌-◌, ◌≤◌, ◌<◌, arith, dec_lt, ℕ_discrete, ◌≡◌, refl, sym, ap, ap₂, subst, ◌∙◌, inl, inr, Bool}
use Rattle.model.proofs.Base.{true, false, not, ◌&&◌, Memᴰ, mem_head, length, eqb, ltb, eq-eqb, ne_eqb, lt-ltb, le-ltb}
use Rattle.model.proofs.Base.{ltb-true, not-true, below, any}
use Rattle.model.specs.Card.{new_name, same_name, taken, shape_of, tail_of, core_of, committed_count}
use Rattle.model.specs.Journal.{journals, name_of, blocks_of}
use Rattle.model.specs.Valid.{in_sequence, is_in, valid_set}
use Rattle.model.specs.Command.{World}
use Rattle.model.specs.Checkpoint.{committed_now, valid_now, committed_of, oldest, share, shares_lower}
use Rattle.model.specs.declared.Shape.{Shape}
use Rattle.model.specs.declared.Name.{Name}
use Rattle.model.specs.declared.CommitLayout.TheVariants.{Numbers}
use Rattle.model.specs.declared.Committed.{Committed}
use Rattle.model.proofs.Lists.{and_both, and_left, and_right, or_left, or_right, or_cases, any_mem, mem_any, mem_below, below_mem, bool_ext}
use Rattle.crash.specs.Book.{is_closed, is_retired}
use Rattle.crash.specs.Ledger.{Ledger, valid_in, shares_lower_in}
use Rattle.crash.proofs.Books.Tests.{clash}
use Rattle.crash.proofs.Books.BookEntries.{oldest_name, uncommitted_name}
use Rattle.crash.proofs.Disk.Relation.{WellFormed, CardUp}
use Rattle.crash.proofs.Disk.LedgerStages.{closed_present, unretired_rank, closing_stage}
use Rattle.crash.proofs.Disk.ReadMaster.{shape_up}
use Rattle.crash.proofs.Disk.RecordFormat.{read_record, read_list}
use Rattle.crash.proofs.Disk.ReadRecords.{ReadAsLedger, length_read_list, read_list_has, read_list_first, read_list_is, journal_read}
use Rattle.crash.proofs.Disk.ReadValid.{journals_are, listed_journals, valid_same}

-- ---- what is read
module _ {l : Ledger} {w : World} (u : CardUp l w) where
  pub count_up : (c : ℕ) → c < l.shape.cores → committed_count w.card c ≡ l.book.uncommitted c - l.book.oldest c
  unfolding committed_count
  count_up c h =
      let r = u.well_formed.ranks c h in
      let k = u.cores c h in
      elim (ℕ_discrete (l.book.uncommitted c) (l.book.next c)) [
        | yes e ↦ rw (k.none_closing e, k.next, (u.disk.journals c h).number) (omega arith)
        | no n ↦ rw ((k.closing (omega (arith, r.mid))).live, k.next, (u.disk.journals c h).number) (omega (arith, r.mid, k.one))
      ]

  count_enough : (c : ℕ) → c < l.shape.cores → l.book.uncommitted c - l.book.oldest c ≤ committed_count w.card c
  count_enough c h = omega (arith, count_up c h)

  committed_now_lem : committed_now w ≡ journals Numbers l.shape w.disk (tail_of w.card) (committed_count w.card)
  unfolding committed_now
  committed_now_lem = rw (shape_up u)

  valid_now_lem : valid_now in_sequence w ≡ valid_set in_sequence Numbers l.shape w.disk (tail_of w.card) (journals Numbers l.shape w.disk (tail_of w.card) (committed_count w.card))
  unfolding valid_now
  valid_now_lem = rw (committed_now_lem, shape_up u)

  pub committed_of_lem : (c : ℕ) → c < l.shape.cores → committed_of w c ≡ read_list l c (tail_of w.card c)
  unfolding committed_of
  committed_of_lem c h = rw (shape_up u) (journal_read u.well_formed u.disk c h (committed_count w.card c) (count_enough c h))

  pub oldest_of : (c : ℕ) → c < l.shape.cores → l.book.oldest c < l.book.uncommitted c
      → oldest (committed_of w c) ≡ read_record l (oldest_name c l.book) (tail_of w.card c).position
  unfolding oldest
  oldest_of c h g = ap oldest (committed_of_lem c h ∙ read_list_first l c (tail_of w.card c) g)

  pub oldest_is : (c : ℕ) → c < l.shape.cores → l.book.oldest c < l.book.uncommitted c → ReadAsLedger Numbers l w.disk c (oldest (committed_of w c))
  oldest_is c h g =
      rw (oldest_of c h g)
      (read_list_is u.well_formed u.disk c h (read_record l (oldest_name c l.book) (tail_of w.card c).position)
      (rw (read_list_first l c (tail_of w.card c) g) (mem_head refl)))

-- ---- 33: a lower one that shares a block
pub record Lower (l : Ledger) (t v : Name) : Type 0 where
  pub is_closed_lem : is_closed (l.book.entry v).stage ≡ true
  pub not_retired : is_retired (l.book.entry v).stage ≡ false
  pub lower : l.stamp v < l.stamp t
  pub shares : share (l.book.entry t).blocks (l.book.entry v).blocks ≡ true

abbrev lower_test : Ledger → Name → Name → Bool
lower_test l t v =
    is_closed (l.book.entry v).stage && not (is_retired (l.book.entry v).stage) && ltb (l.stamp v) (l.stamp t) && share (l.book.entry t).blocks (l.book.entry v).blocks

lower_in : {l : Ledger} → WellFormed l → (t v : Name) → Lower l t v → shares_lower_in l t ≡ true
unfolding shares_lower_in
lower_in {l} f t v r =
    mem_any (lower_test l t) (f.known v (closed_present _ r.is_closed_lem))
    (and_both (and_both (and_both r.is_closed_lem (ap not r.not_retired)) (lt-ltb _ _ r.lower)) r.shares)

pub in_lower : (l : Ledger) (t : Name) → shares_lower_in l t ≡ true → (v : Name) × Lower l t v
unfolding shares_lower_in
in_lower l t h =
    let r = any_mem (lower_test l t) l.book.opened h in
    let v = r.0 in
    let a = is_closed (l.book.entry v).stage in
    let b = not (is_retired (l.book.entry v).stage) in
    let m = ltb (l.stamp v) (l.stamp t) in
    let s = share (l.book.entry t).blocks (l.book.entry v).blocks in
    let q = and_left (a && b && m) s r.2 in (
      v,
      record {
        is_closed_lem = and_left a b (and_left (a && b) m q);
        not_retired = not-true _ (and_right a b (and_left (a && b) m q));
        lower = ltb-true _ _ (and_right (a && b) m q);
        shares = and_right (a && b && m) s r.2;
      },
    )

module _ {l : Ledger} {w : World} (u : CardUp l w) (c : ℕ) (e : Committed) (x : ReadAsLedger Numbers l w.disk c e) where
  abbrev pub lower_read : Committed → Bool
  lower_read g = ltb g.stamp e.stamp && share (blocks_of (shape_of w.card) w.disk e) (blocks_of (shape_of w.card) w.disk g)

  abbrev pub lower_closed : ℕ → Bool
  lower_closed i =
      let t = (core_of w.card i).closed in
      t.live && ltb t.stamp e.stamp && share (blocks_of (shape_of w.card) w.disk e) (taken t)

  blocks_up : (g : Committed) (i : ℕ) → ReadAsLedger Numbers l w.disk i g → blocks_of (shape_of w.card) w.disk g ≡ (l.book.entry (name_of g)).blocks
  blocks_up g i y = ap (λ (s : Shape). blocks_of s w.disk g) (shape_up u) ∙ y.blocks

  read_lower : (g : Committed) → Memᴰ g (committed_now w) → lower_read g ≡ true → Lower l (name_of e) (name_of g)
  read_lower g m h =
      let y = journals_are u.well_formed u.disk (committed_count w.card) (count_enough u) g (rw (committed_now_lem u) at m) in
      let p : g.stamp < e.stamp = ltb-true g.stamp e.stamp (and_left _ _ h) in
      record {
        is_closed_lem = y.unretired.is_closed_lem;
        not_retired = y.unretired.not_retired;
        lower = omega (arith, y.stamp, x.stamp);
        shares = sym (ap₂ share (blocks_up e c x) (blocks_up g g.core y)) ∙ and_right (ltb g.stamp e.stamp) _ h;
      }

  pub closed_lower : (i : ℕ) → i < l.shape.cores → lower_closed i ≡ true → Lower l (name_of e) (uncommitted_name i l.book)
  closed_lower i h g =
      let r = u.well_formed.ranks i h in
      let k = u.cores i h in
      let t = (core_of w.card i).closed in
      let q = and_left (t.live && ltb t.stamp e.stamp) _ g in
      elim (ℕ_discrete (l.book.uncommitted i) (l.book.next i)) [
        | yes n ↦ clash (and_left t.live _ q) (k.none_closing n)
        | no n ↦ (let s : l.book.uncommitted i < l.book.next i = omega (arith, r.mid) in
            let y = closing_stage r s in
            let p : t.stamp < e.stamp = ltb-true t.stamp e.stamp (and_right t.live _ q) in
            record {
              is_closed_lem = y.0;
              not_retired = y.1;
              lower = omega (arith, (k.stored s).1, x.stamp);
              shares = sym (ap₂ share (blocks_up e c x) (k.closing s).blocks) ∙ and_right (t.live && ltb t.stamp e.stamp) _ g;
            })
      ]

  lower_read_lem : (g : Committed) (i : ℕ) → ReadAsLedger Numbers l w.disk i g → Lower l (name_of e) (name_of g) → lower_read g ≡ true
  lower_read_lem g i y r =
      and_both (lt-ltb g.stamp e.stamp (omega (arith, y.stamp, x.stamp, r.lower))) (ap₂ share (blocks_up e c x) (blocks_up g i y) ∙ r.shares)

  lower_closed_lem : (i : ℕ) → i < l.shape.cores → l.book.uncommitted i < l.book.next i → Lower l (name_of e) (uncommitted_name i l.book) → lower_closed i ≡ true
  lower_closed_lem i h s r =
      let k = u.cores i h in
      and_both (and_both (k.closing s).live (lt-ltb _ e.stamp (omega (arith, (k.stored s).1, x.stamp, r.lower)))) (ap₂ share (blocks_up e c x) (k.closing s).blocks ∙ r.shares)

  lower_found : (v : Name) → Lower l (name_of e) v → shares_lower w e ≡ true
  unfolding shares_lower
  lower_found v r =
      elim (dec_lt v.core l.shape.cores) [
        | no n ↦ clash r.is_closed_lem (ap is_closed (u.well_formed.far v (omega arith)))
        | yes h ↦ elim (unretired_rank (u.well_formed.ranks v.core h) v.number r.is_closed_lem r.not_retired) [
          | inl i ↦ (let g = read_list_has l v.core (tail_of w.card v.core) v.number i.0 i.1 in
              let y = read_list_is u.well_formed u.disk v.core h g.0 g.1 in
              let m = listed_journals u.well_formed u.disk (committed_count w.card) (count_enough u) g.0 in
              let p = subst (λ (j : ℕ). (j < l.shape.cores) × Memᴰ g.0 (read_list l j (tail_of w.card j))) (sym y.core) (h, g.1) in
              or_left (any lower_closed (below (shape_of w.card).cores))
              (mem_any lower_read (rw (committed_now_lem u) (m p.0 p.1)) (lower_read_lem g.0 v.core y (subst (Lower l (name_of e)) (sym g.2) r))))
          | inr i ↦ or_right (any lower_read (committed_now w))
              (mem_any lower_closed (rw (shape_up u) (below_mem l.shape.cores v.core h))
              (lower_closed_lem v.core h (omega arith) (let e₂ : v.number ≡ l.book.uncommitted v.core = omega (arith, i.0, i.1, (u.cores v.core h).one) in subst (λ (j : ℕ). Lower l (name_of e) (new_name v.core j)) e₂ r)))
        ]
      ]

  found_lower : shares_lower w e ≡ true → (v : Name) × Lower l (name_of e) v
  unfolding shares_lower
  found_lower h =
      elim (or_cases (any lower_read (committed_now w)) (any lower_closed (below (shape_of w.card).cores)) h) [
        | inl a ↦ (let r = any_mem lower_read (committed_now w) a in (name_of r.0, read_lower r.0 r.1 r.2))
        | inr a ↦ (let r = any_mem lower_closed (below (shape_of w.card).cores) a in
            (new_name r.0 (l.book.uncommitted r.0), closed_lower r.0 (subst (λ (s : Shape). r.0 < s.cores) (shape_up u) (mem_below (shape_of w.card).cores r.1)) r.2))
      ]

  shares_same : shares_lower w e ≡ shares_lower_in l (name_of e)
  shares_same =
      bool_ext
      (λ h. let r = found_lower h in lower_in u.well_formed (name_of e) r.0 r.1)
      (λ h. let r = in_lower l (name_of e) h in lower_found r.0 r.1)

-- ---- the conditions
module _ {l : Ledger} {w : World} (u : CardUp l w) (c : ℕ) (in_range_lem : c < l.shape.cores) where
  -- '31'
  pub none_committed : eqb (length (committed_of w c)) 0 ≡ not (ltb (l.book.oldest c) (l.book.uncommitted c))
  none_committed =
      let n : length (committed_of w c) ≡ l.book.uncommitted c - l.book.oldest c = ap length (committed_of_lem u c in_range_lem) ∙ length_read_list l c (tail_of w.card c) in
      elim (dec_lt (l.book.oldest c) (l.book.uncommitted c)) [
        | yes h ↦ ne_eqb (length (committed_of w c)) 0 (λ e. omega arith) ∙ ap not (sym (lt-ltb _ _ h))
        | no h ↦ eq-eqb (length (committed_of w c)) 0 (omega arith) ∙ ap not (sym (le-ltb (l.book.oldest c) (l.book.uncommitted c) (omega arith)))
      ]

  module _ (some : l.book.oldest c < l.book.uncommitted c) where
    pub oldest_name_lem : name_of (oldest (committed_of w c)) ≡ oldest_name c l.book
    oldest_name_lem = ap name_of (oldest_of u c in_range_lem some)

    -- '32'
    pub oldest_valid : is_in (valid_now in_sequence w) (name_of (oldest (committed_of w c))) ≡ any (same_name (oldest_name c l.book)) (valid_in l.book)
    oldest_valid =
        ap₂ is_in (valid_now_lem u) oldest_name_lem
        ∙ valid_same u.well_formed u.disk (committed_count w.card) (count_enough u) (oldest_name c l.book)

    -- '33'
    pub oldest_shares : shares_lower w (oldest (committed_of w c)) ≡ shares_lower_in l (oldest_name c l.book)
    oldest_shares = shares_same u c (oldest (committed_of w c)) (oldest_is u c in_range_lem some) ∙ ap (shares_lower_in l) oldest_name_lem
