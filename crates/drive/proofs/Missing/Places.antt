-- What the blocks stored since the barrier tell, of a card that is up: which commits, parts and home stores are among them.
use Prim.Native.Nat.{ℕ, ◌+◌, ◌-◌, ◌≤◌, ◌<◌}
use native.Mathlib.Omega.{arith}
use native.Mathlib.Decide.{dec_lt, ℕ_discrete}
use mathlib.Core.Path.{◌≡◌, refl, sym, ap, ◌∙◌, subst}
use mathlib.Core.Logic.{◌⊎◌, ⊎_elim}
use mathlib.Core.Bool.{true, false, So, ◌&&◌}
use mathlib.Core.List.{List, [], ◌∷◌}
use lib.ListN.{length, get_or, take, length-append}
use lib.Dec.{eqb, ltb}
use borrow.Author.Tests.{lt-ltb, ltb-true}
use Rattle.model.specs.Lists.{below, any}
use Rattle.model.specs.Bytes.{Bytes}
use Rattle.model.specs.Shape.{home_block, journal_block}
use Rattle.model.specs.Card.{new_name, same_name, shape_of, core_of, tail_of}
use Rattle.model.specs.Command.{World}
use Rattle.model.specs.declared.Name.{Name}
use Rattle.model.specs.declared.Tail.{Tail}
use Rattle.model.specs.Valid.{is_in}
use Rattle.model.proofs.Lists.{cases, bool_ext, and_left, and_right, and_both, any_mem, mem_any, mem_get_or, get_or_mem, below_mem, mem_below}
use Rattle.model.proofs.Journal.{home_apart, cores_apart, journal_apart}
use Rattle.crash.specs.Book.{committed, is_closed, is_retired, stage_count}
use Rattle.crash.specs.Ledger.{Ledger, record_blocks, record_of, valid_in}
use Rattle.crash.proofs.Books.Tests.{clash, any_in, in_any, block_equality}
use Rattle.crash.proofs.Books.BookEntries.{uncommitted_name}
use Rattle.crash.proofs.Books.Largest.{stage_of}
use Rattle.crash.proofs.Blocks.Invariant.{homed, homed_by, history_of, status, took_in}
use Rattle.crash.proofs.Disk.Relation.{contents}
use Rattle.crash.proofs.Disk.ReadMaster.{shape_up}
use Rattle.crash.proofs.Disk.ReadRecords.{records_flat, length_records, stored_closed}
use Rattle.crash.proofs.Disk.ReadCheckpoint.{count_up}
use Rattle.crash.proofs.Disk.LedgerStages.{closed_present}
use Rattle.crash.proofs.Commands.CardFrames.{none_stored}
use Rattle.crash.proofs.Commands.CardStore.{length_contents, room, within}
use Rattle.crash.proofs.Runs.UpSteps.{RelatedUp}
use Rattle.drive.specs.LostCommits.{book_without, ledger_without}
use Rattle.drive.specs.Since.{StoreKind, commit_since, home_since, part_since}
use Rattle.drive.specs.BarrierPlaces.{is_among, last_among, behind_count, valid_behind, part_among, home_among}
use Rattle.drive.proofs.Lost.Mixed.{last_name, whole, stored_part, commit_block, contents_is, contents_unlost, whole_held}
use Rattle.drive.proofs.Places.BetweenDisks.{Place, in_journal, at_home, used_in, BetweenDisks}
use Rattle.drive.proofs.Places.Home.{one_older, mem_take}
use Rattle.drive.proofs.Places.Retire.{not_master}
use Rattle.drive.proofs.Missing.ReadBehind.{valid_behind_lem}

module _ {l : Ledger} {w : World} (u : RelatedUp l w) {ks : List StoreKind} {behind : Bytes} {places : List ℕ} {old : Bytes}
    (s : BetweenDisks l (tail_of w.card) ks behind w.disk places old) where
  abbrev tails : ℕ → Tail
  tails = tail_of w.card

  -- ---- a block among them lies where they lie
  among : (p : ℕ) → So (is_among p places) → Place l tails ks p
  among p h = let m = mem_get_or (any_in block_equality p places h) 0 in subst (Place l tails ks) m.2 (s.lies m.0 m.1)

  is_among_lem : (j p : ℕ) → j < length places → get_or places j 0 ≡ p → So (is_among p places)
  is_among_lem j p h e = subst (λ (q : ℕ). So (is_among q places)) e (in_any block_equality (get_or_mem places j 0 h))

  pub no_master : is_among 0 places ≡ false
  no_master = cases (is_among 0 places) (λ h. absurd (not_master (among 0 h) refl)) (λ h. h)

  module _ (c : ℕ) (h : c < l.shape.cores) where
    -- ---- what a journal holds fits
    whole_long : length (whole l c (l.book.uncommitted c - l.book.oldest c)) ≡ used_in l c
    whole_long =
        let o = l.book.oldest c in
        let n = l.book.uncommitted c - o in
        ap length (records_flat l c o n) ∙ length_records u.up.well_formed c o n (stored_closed u.up.well_formed u.up.disk c h)

    used_is : (core_of w.card c).used ≡ used_in l c
    used_is = (u.up.cores c h).used

    contents_long : length (contents l c) ≡ used_in l c + length (stored_part l c)
    contents_long = ap length (contents_is l c) ∙ length-append (whole l c (l.book.uncommitted c - l.book.oldest c)) (stored_part l c) ∙ ap (λ (n : ℕ). n + length (stored_part l c)) whole_long

    contents_fit : length (contents l c) ≤ l.shape.journal
    contents_fit =
        elim (dec_lt (l.book.uncommitted c) (l.book.next c)) [
          | yes busy ↦ omega (arith, length_contents u.up c h busy, room u.up c h busy, within u.up c h busy)
          | no free ↦ (let e : l.book.uncommitted c ≡ l.book.next c = omega (arith, (u.up.well_formed.ranks c h).mid) in
              let z : stage_count (stage_of l.book (new_name c (l.book.uncommitted c))) ≡ 0
              = ap (λ (n : ℕ). stage_count (stage_of l.book (new_name c n))) e ∙ none_stored l u.up.well_formed c h in
              let none : length (stored_part l c) ≡ 0 = ap (λ (n : ℕ). length (take n (record_of l (new_name c (l.book.uncommitted c))))) z in
              let r : used_in l c ≤ l.shape.journal = ap_le e (u.up.disk.journals c h).room in
              omega (arith, contents_long))
        ]
      where
        ap_le : l.book.uncommitted c ≡ l.book.next c → record_blocks l.book c (l.book.oldest c) (l.book.next c - l.book.oldest c) ≤ l.shape.journal → used_in l c ≤ l.shape.journal
        ap_le e r = subst (λ (n : ℕ). record_blocks l.book c (l.book.oldest c) (n - l.book.oldest c) ≤ l.shape.journal) (sym e) r

    -- a place of core c's journal, by its step
    in_own : (q : ℕ) → q < l.shape.journal → Place l tails ks (journal_block l.shape c ((tails c).position + q))
        → (length (contents (ledger_without (commit_since ks) l) c) ≤ q) × (So (part_since ks c) ⊎ So (commit_since ks (last_name l c)))
    in_own q hq (in_journal a r g e lo hi o) =
        elim (ℕ_discrete a c) [
          | no ne ↦ absurd (cores_apart l.shape a _ c _ (omega (arith, u.up.well_formed.range.long)) ne (sym e))
          | yes i ↦ own_case i r e lo hi o
        ]
      where
        own_case : a ≡ c → (r : ℕ) → journal_block l.shape c ((tails c).position + q) ≡ journal_block l.shape a ((tails a).position + r)
            → length (contents (ledger_without (commit_since ks) l) a) ≤ r → r < length (contents l a) → So (part_since ks a) ⊎ So (commit_since ks (last_name l a))
            → (length (contents (ledger_without (commit_since ks) l) c) ≤ q) × (So (part_since ks c) ⊎ So (commit_since ks (last_name l c)))
        own_case i r e lo hi o =
            let e₂ : journal_block l.shape c ((tails c).position + q) ≡ journal_block l.shape c ((tails c).position + r)
            = e ∙ ap (λ (y : ℕ). journal_block l.shape y ((tails y).position + r)) i in
            let hi₂ : r < length (contents l c) = subst (λ (y : ℕ). r < length (contents l y)) i hi in
            let lo₂ : length (contents (ledger_without (commit_since ks) l) c) ≤ r = subst (λ (y : ℕ). length (contents (ledger_without (commit_since ks) l) y) ≤ r) i lo in
            let same : q ≡ r = elim (ℕ_discrete q r) [ yes y ↦ y | no n ↦ absurd (journal_apart l.shape c (tails c).position q r hq (omega (arith, contents_fit)) n e₂) ] in
            (omega arith, subst (λ (y : ℕ). So (part_since ks y) ⊎ So (commit_since ks (last_name l y))) i o)
    in_own q hq (at_home t m i g st a d e) =
        absurd (home_apart l.shape c _ (home_block (get_or (l.book.entry t).blocks i 0))
        (let b = (u.up.well_formed.limits t (closed_present _ (ap is_closed st))).blocks _ (get_or_mem (l.book.entry t).blocks i 0 d) in omega arith) (sym e))

    -- ---- the last committed block is among them exactly if its commit is since the barrier
    last_among_lem : last_among w places c ≡ commit_since ks (last_name l c)
    unfolding last_among
    last_among_lem = bool_ext to from
      where
        spot : journal_block (shape_of w.card) c ((tails c).position + ((core_of w.card c).used - 1)) ≡ journal_block l.shape c ((tails c).position + (used_in l c - 1))
        spot = rw (shape_up u.up, used_is) refl

        to : (ltb 0 (core_of w.card c).used && is_among (journal_block (shape_of w.card) c ((tails c).position + ((core_of w.card c).used - 1))) places) ≡ true
            → commit_since ks (last_name l c) ≡ true
        to t =
            let some : 0 < used_in l c = (let n = ltb-true 0 (core_of w.card c).used (and_left (ltb 0 (core_of w.card c).used) (is_among (journal_block (shape_of w.card) c ((tails c).position + ((core_of w.card c).used - 1))) places) t) in omega (arith, used_is)) in
            let i : So (is_among (journal_block l.shape c ((tails c).position + (used_in l c - 1))) places) = subst (λ (p : ℕ). So (is_among p places)) spot (and_right (ltb 0 (core_of w.card c).used) (is_among (journal_block (shape_of w.card) c ((tails c).position + ((core_of w.card c).used - 1))) places) t) in
            let r = in_own (used_in l c - 1) (omega (arith, contents_long, contents_fit)) (among _ i) in
            cases (commit_since ks (last_name l c)) (λ y. y)
            (λ n. absurd (let e = ap length (contents_unlost u.up.well_formed c h (commit_since ks) n) in omega (arith, e, whole_long, r.0)))

        from : commit_since ks (last_name l c) ≡ true
            → (ltb 0 (core_of w.card c).used && is_among (journal_block (shape_of w.card) c ((tails c).position + ((core_of w.card c).used - 1))) places) ≡ true
        from p =
            let x = s.commits c h p in
            let e : used_in l c ≡ length (contents (ledger_without (commit_since ks) l) c) + 1 =
            sym whole_long ∙ ap length (whole_held u.up.well_formed c h (commit_since ks) s.cached.last p) ∙ length-append (contents (ledger_without (commit_since ks) l) c) (commit_block l c ∷ []) in
            let q : get_or places x.index 0 ≡ journal_block (shape_of w.card) c ((tails c).position + ((core_of w.card c).used - 1)) =
            x.place ∙ ap (λ (n : ℕ). journal_block l.shape c ((tails c).position + n)) (omega (arith, e)) ∙ sym spot in
            and_both (lt-ltb 0 (core_of w.card c).used (omega (arith, used_is, e))) (is_among_lem x.index _ x.within q)

    -- so many are committed behind the barrier
    behind_count_lem : behind_count w places c ≡ (book_without (commit_since ks) l.book).uncommitted c - l.book.oldest c
    unfolding behind_count book_without
    behind_count_lem =
        rw (last_among_lem, count_up u.up c h)
        (cases (commit_since ks (last_name l c)) (λ y. rw y (omega arith)) (λ y. rw y (omega arith)))

    -- ---- a part of the record that is being stored
    module _ (busy : l.book.uncommitted c < l.book.next c) (some : 0 < (core_of w.card c).stored) where
      stage_is : stage_count (stage_of l.book (uncommitted_name c l.book)) ≡ (core_of w.card c).stored
      stage_is = ap stage_count ((u.up.cores c h).stored busy).0

      pub part_among_lem : part_among w places c ≡ part_since ks c
      unfolding part_among
      part_among_lem = bool_ext to from
        where
          spot : (i : ℕ) → journal_block (shape_of w.card) c ((tails c).position + ((core_of w.card c).used + i)) ≡ journal_block l.shape c ((tails c).position + (used_in l c + i))
          spot i = rw (shape_up u.up, used_is) refl

          to : any (λ (i : ℕ). is_among (journal_block (shape_of w.card) c ((tails c).position + ((core_of w.card c).used + i))) places) (below (core_of w.card c).stored) ≡ true → part_since ks c ≡ true
          to t =
              let m = any_mem (λ (i : ℕ). is_among (journal_block (shape_of w.card) c ((tails c).position + ((core_of w.card c).used + i))) places) (below (core_of w.card c).stored) t in
              let low = mem_below (core_of w.card c).stored m.1 in
              let i : So (is_among (journal_block l.shape c ((tails c).position + (used_in l c + m.0))) places) = subst (λ (p : ℕ). So (is_among p places)) (spot m.0) m.2 in
              let r = in_own (used_in l c + m.0) (omega (arith, length_contents u.up c h busy, used_is, contents_fit)) (among _ i) in
              cases (part_since ks c) (λ y. y)
              (λ n. ⊎_elim (λ y. clash y n) (λ y. clash y (s.cached.stored_behind c h n (omega (arith, stage_is))).0) r.1)

          from : part_since ks c ≡ true → any (λ (i : ℕ). is_among (journal_block (shape_of w.card) c ((tails c).position + ((core_of w.card c).used + i))) places) (below (core_of w.card c).stored) ≡ true
          from p =
              let x = s.parts c h p in
              mem_any (λ (i : ℕ). is_among (journal_block (shape_of w.card) c ((tails c).position + ((core_of w.card c).used + i))) places)
              (below_mem (core_of w.card c).stored x.step (omega (arith, x.stored, stage_is)))
              (is_among_lem x.index _ x.within (x.place ∙ sym (spot x.step)))

  -- ---- the valid set behind the barrier
  pub valid_among : (n : Name) → is_in (valid_behind w places) n ≡ any (same_name n) (valid_in (book_without (commit_since ks) l.book))
  unfolding valid_behind
  valid_among n =
      rw (shape_up u.up)
      (valid_behind_lem u.up.well_formed (commit_since ks) s.cached.last s.cached.stands u.up.disk (behind_count w places) behind_count_lem n)

  -- ---- a home store of one that has stored all its blocks home
  module _ (t : Name) (m : ℕ) (stage : stage_of l.book t ≡ committed m) (all_home : m ≡ length (l.book.entry t).blocks) where
    abbrev bs : List ℕ
    bs = (l.book.entry t).blocks

    -- no other unretired one has stored its block
    only_t : (v : Name) (n i j : ℕ) → stage_of l.book v ≡ committed n → i < n → i < length (l.book.entry v).blocks → j < length bs → get_or (l.book.entry v).blocks i 0 ≡ get_or bs j 0 → v ≡ t
    only_t v n i j g a d k e =
        let b = get_or bs j 0 in
        let vs = (l.book.entry v).blocks in
        let took_v : So (took_in l.book b v) = subst (λ (y : ℕ). So (any (eqb y) vs)) e (in_any block_equality (get_or_mem vs i 0 d)) in
        let took_t : So (took_in l.book b t) = in_any block_equality (get_or_mem bs j 0 k) in
        let homed_v : So (homed l b v) = ap (homed_by b vs) g ∙ subst (λ (y : ℕ). So (any (eqb y) (take n vs))) e (in_any block_equality (mem_take n vs i a d)) in
        let homed_t : So (homed l b t) = ap (homed_by b bs) stage ∙ in_any block_equality (mem_take m bs j (omega arith) k) in
        ⊎_elim (λ q. q)
        (⊎_elim (λ o. clash (o.retires_first homed_v) (ap is_retired stage)) (λ o. clash (o.retires_first homed_t) (ap is_retired g)))
        (one_older (status l) (homed l b) (history_of l b) (u.inv.block_inv b).chain v t (u.inv.took b v took_v) (u.inv.took b t took_t))

    home_here : (p j : ℕ) → j < length bs → Place l tails ks p → p ≡ home_block (get_or bs j 0) → So (home_since ks t)
    home_here p j k (in_journal a q g e lo hi o) y =
        absurd (home_apart l.shape a _ (home_block (get_or bs j 0))
        (let b = (u.up.well_formed.limits t (closed_present _ (ap is_closed stage))).blocks _ (get_or_mem bs j 0 k) in omega arith) (sym y ∙ e))
    home_here p j k (at_home v n i g st a d e) y = subst (λ (x : Name). So (home_since ks x)) (only_t v n i j st a d k (let r = sym e ∙ y in omega arith)) g

    pub home_among_lem : home_among bs places ≡ home_since ks t
    unfolding home_among
    home_among_lem =
        bool_ext
        (λ q.
        let r = any_mem (λ (b : ℕ). is_among (home_block b) places) bs q in
        let j = mem_get_or r.1 0 in
        home_here (home_block r.0) j.0 j.1 (among _ r.2) (ap home_block (sym j.2)))
        (λ q.
        let x = s.homes t q in
        mem_any (λ (b : ℕ). is_among (home_block b) places) (get_or_mem bs x.step 0 x.took) (is_among_lem x.index _ x.within x.place))
