-- What a cut that loses commits finds, as a ledger: the same transactions, but those whose commit is lost are closed with all
-- but the commit stored, and of what was not committed nothing stored counts. The ledger stays in order and the histories of
-- the blocks stay good, as long as whoever stored home or retired is kept without the lost commits.
use Prim.Native.Nat.{ℕ, suc, ◌+◌, ◌-◌, ◌≤◌, ◌<◌}
use native.Mathlib.Omega.{arith}
use native.Mathlib.Decide.{dec_lt}
use mathlib.Core.Path.{◌≡◌, refl, sym, ap, ◌∙◌, subst, fun_ext}
use mathlib.Core.Logic.{◌⊎◌, inl, inr, ◌≢◌, ⊎_elim}
use mathlib.Core.Bool.{Bool, true, false, So, cond}
use mathlib.Core.List.{List, [], ◌∷◌}
use lib.ListN.{length}
use Rattle.model.specs.Lists.{any}
use Rattle.model.specs.Bytes.{Bytes}
use Rattle.model.specs.Card.{new_name}
use Rattle.model.specs.declared.Name.{Name}
use Rattle.model.proofs.Lists.{cases}
use Rattle.crash.specs.Book.{Stage, absent, committed, is_running, is_closed, is_committed, is_retired, Book, kept}
use Rattle.crash.specs.Ledger.{record_blocks, Ledger}
use Rattle.crash.proofs.Books.Tests.{clash}
use Rattle.crash.proofs.Books.BookEntries.{records_same, by_stage}
use Rattle.crash.proofs.Blocks.History.{Event, value, upto, Status, Older, Link, WriterHolds, LinkNext, Chain, BlockInv}
use Rattle.crash.proofs.Books.Largest.{member_of, stage_of}
use Rattle.crash.proofs.Blocks.Invariant.{Inv, area_before, history_of, homed, homed_by, status, is_opened, AllOpened}
use Rattle.crash.proofs.Blocks.ClosedImages.{Imaged}
use Rattle.crash.proofs.Disk.Relation.{Ranks, WellFormed}
use Rattle.crash.proofs.Disk.LedgerStages.{committed_rank}
use Rattle.crash.proofs.Disk.LedgerSteps.{limits_same}
use Rattle.crash.proofs.Disk.LedgerFresh.{same_frozen}
use Rattle.crash.proofs.Disk.LedgerRanks.{sum_same}
use Rattle.drive.specs.LostCommits.{stage_without, entry_without, book_without, ledger_without}

-- each lost commit is the last of its core, and nothing of its transaction is stored home
abbrev pub Last : Ledger → (Name → Bool) → Type 0
Last l lost = (t : Name) → So (lost t) → (stage_of l.book t ≡ committed 0) × (suc t.number ≡ l.book.uncommitted t.core) × (t.core < l.shape.cores)

-- ---- the stages
without_closed : (x : Bool) (n : ℕ) (g : Stage) → is_closed (stage_without x n g) ≡ is_closed g
without_closed x n = by_stage (λ g. is_closed (stage_without x n g) ≡ is_closed g) refl refl (λ m. refl) (λ m. cases x (λ h. rw h refl) (λ h. rw h refl)) refl

without_retired : (x : Bool) (n : ℕ) (g : Stage) → is_retired (stage_without x n g) ≡ is_retired g
without_retired x n = by_stage (λ g. is_retired (stage_without x n g) ≡ is_retired g) refl refl (λ m. refl) (λ m. cases x (λ h. rw h refl) (λ h. rw h refl)) refl

without_opened : (x : Bool) (n : ℕ) (g : Stage) → is_opened (stage_without x n g) ≡ is_opened g
without_opened x n = by_stage (λ g. is_opened (stage_without x n g) ≡ is_opened g) refl refl (λ m. refl) (λ m. cases x (λ h. rw h refl) (λ h. rw h refl)) refl

pub without_running : (x : Bool) (n : ℕ) (g : Stage) → is_running (stage_without x n g) ≡ is_running g
without_running x n = by_stage (λ g. is_running (stage_without x n g) ≡ is_running g) refl refl (λ m. refl) (λ m. cases x (λ h. rw h refl) (λ h. rw h refl)) refl

-- without them no more is committed; where none is lost, as much
pub without_commits : (x : Bool) (n : ℕ) (g : Stage) → So (is_committed (stage_without x n g)) → So (is_committed g)
without_commits x n = by_stage (λ g. So (is_committed (stage_without x n g)) → So (is_committed g)) (λ h. h) (λ h. h) (λ m h. h) (λ m h. refl) (λ h. h)

pub none_commits : (n : ℕ) (g : Stage) → is_committed (stage_without false n g) ≡ is_committed g
none_commits n = by_stage (λ g. is_committed (stage_without false n g) ≡ is_committed g) refl refl (λ m. refl) (λ m. refl) refl

without_absent : (x : Bool) (n : ℕ) (g : Stage) → stage_without x n g ≡ absent → g ≡ absent
without_absent x n =
    by_stage (λ g. stage_without x n g ≡ absent → g ≡ absent) (λ h. refl) (λ h. clash refl (ap is_running h)) (λ m h. clash refl (ap is_closed h))
    (λ m h. clash (without_closed x n (committed m)) (ap is_closed h)) (λ h. clash refl (ap is_closed h))

without_present : (x : Bool) (n : ℕ) (g : Stage) → g ≢ absent → stage_without x n g ≢ absent
without_present x n g h e = h (without_absent x n g e)

present_without : (x : Bool) (n : ℕ) (g : Stage) → stage_without x n g ≢ absent → g ≢ absent
present_without x n g h e = h (rw e refl)

-- ---- any book
module _ (lost : Name → Bool) (k : Book) where
  pub stage_closed : (t : Name) → is_closed (stage_of (book_without lost k) t) ≡ is_closed (stage_of k t)
  unfolding book_without
  stage_closed t = without_closed (lost t) (length (k.entry t).blocks) (stage_of k t)

  pub stage_retired : (t : Name) → is_retired (stage_of (book_without lost k) t) ≡ is_retired (stage_of k t)
  unfolding book_without
  stage_retired t = without_retired (lost t) (length (k.entry t).blocks) (stage_of k t)

  -- the records take as many blocks
  pub without_records : (c i n : ℕ) → record_blocks (book_without lost k) c i n ≡ record_blocks k c i n
  unfolding book_without
  without_records c i n = records_same k (book_without lost k) c i n (λ j a b. refl)

  module _ (c : ℕ) where
    -- the first uncommitted number
    abbrev first_lost : ℕ
    first_lost = cond (lost (new_name c (k.uncommitted c - 1))) (k.uncommitted c - 1) (k.uncommitted c)

    -- where the last one's commit is lost, and where it is not
    by_lost : (P : ℕ → Type 0) → (lost (new_name c (k.uncommitted c - 1)) ≡ true → P (k.uncommitted c - 1)) → P (k.uncommitted c) → P first_lost
    by_lost P a b = cases (lost (new_name c (k.uncommitted c - 1))) (λ h. rw h (a h)) (λ h. rw h b)

    pub mid_without : first_lost ≤ k.uncommitted c
    mid_without = by_lost (λ n. n ≤ k.uncommitted c) (λ h. omega arith) (omega arith)

    -- from it on up to the last commit, the commit is lost
    pub lost_from : (i : ℕ) → first_lost ≤ i → i < k.uncommitted c → lost (new_name c i) ≡ true
    lost_from i a b =
        cases (lost (new_name c (k.uncommitted c - 1)))
        (λ h. let n : k.uncommitted c - 1 ≤ i = rw h at a in
        let e : i ≡ k.uncommitted c - 1 = omega arith in rw e h)
        (λ h. absurd (let n : k.uncommitted c ≤ i = rw h at a in omega arith))

-- ---- the ledger stays in order
module _ {l : Ledger} (f : WellFormed l) (lost : Name → Bool) (last : Last l lost) where
  abbrev pub k : Book
  k = l.book

  abbrev pub k₂ : Book
  k₂ = book_without lost l.book

  module _ (c : ℕ) (in_range_lem : c < l.shape.cores) where
    abbrev pub u₂ : ℕ
    u₂ = cond (lost (new_name c (k.uncommitted c - 1))) (k.uncommitted c - 1) (k.uncommitted c)

    lost_rank : (i : ℕ) → lost (new_name c i) ≡ true → (suc i ≡ k.uncommitted c) × (k.oldest c ≤ i)
    lost_rank i h =
        let x = last (new_name c i) h in
        (x.1, (committed_rank (f.ranks c in_range_lem) i (ap is_committed x.0) (ap is_retired x.0)).0)

    pub low_without : k.oldest c ≤ u₂
    low_without = by_lost lost k c (λ n. k.oldest c ≤ n) (λ h. (lost_rank (k.uncommitted c - 1) h).1) (f.ranks c in_range_lem).low

    -- below it no commit is lost
    stands_below : (i : ℕ) → i < u₂ → lost (new_name c i) ≡ false
    stands_below i h =
        cases (lost (new_name c i))
        (λ a. let x = lost_rank i a in
        let e : k.uncommitted c - 1 ≡ i = omega (arith, x.0) in
        let y : u₂ ≡ i = rw (e, a) refl in
        absurd (omega arith))
        (λ a. a)

    ranks_without : Ranks k₂ c
    unfolding book_without
    ranks_without =
        let r = f.ranks c in_range_lem in
        record {
          below =
              record {
                positive = r.below.positive;
                from_first = r.below.from_first;
                old = λ i h. elim (r.below.old i h) [ inl e ↦ inl (rw e refl) | inr e ↦ inr (rw e refl) ];
                all_retired = λ i a h. rw (r.below.all_retired i a h) refl;
              };
          low = low_without;
          mid = omega (arith, mid_without lost k c, r.mid);
          top = r.top;
          first = λ h. (let x = r.first (omega (arith, mid_without lost k c)) in (x.0, rw (x.1, stands_below (k.oldest c) h) refl, x.2));
          done = λ i a b. rw (r.done i a (omega (arith, mid_without lost k c)), stands_below i b) refl;
          waiting =
              λ i a b.
              elim (dec_lt i (k.uncommitted c)) [
                | yes lt ↦ (let x = last (new_name c i) (lost_from lost k c i a lt) in
                    (length (k.entry (new_name c i)).blocks + 1, rw (x.0, lost_from lost k c i a lt) refl, omega arith))
                | no ge ↦ (let x = r.waiting i (omega arith) b in (0, rw x.1 refl, omega arith))
              ];
          current = elim r.current [ inl e ↦ inl (rw e refl) | inr e ↦ inr (rw e refl) ];
          rest = λ i h. rw (r.rest i h) refl;
        }

  pub well_formed_without : WellFormed (ledger_without lost l)
  unfolding book_without
  well_formed_without =
      record {
        sequence = f.sequence;
        range = f.range;
        ranks = λ c h. unfold book_without in ranks_without c h;
        far = λ t h. rw (f.far t h) refl;
        limits = λ t h. limits_same l.shape t (k.entry t) (entry_without (lost t) (k.entry t)) refl (f.limits t (present_without _ _ _ h));
        unopened = λ t h. f.unopened t (without_absent _ _ _ h);
        named = λ t u m. without_present _ _ _ (f.named t u m);
        frozen = λ t h. same_frozen l (ledger_without lost l) t refl refl refl refl (f.frozen t (sym (unfold book_without in stage_closed lost k t) ∙ h));
        stamps = λ t u a b. f.stamps t u (sym (unfold book_without in stage_closed lost k t) ∙ a) (sym (unfold book_without in stage_closed lost k u) ∙ b);
        ascending =
            λ c i j h a b. f.ascending c i j h (sym (unfold book_without in stage_closed lost k (new_name c i)) ∙ a) (sym (unfold book_without in stage_closed lost k (new_name c j)) ∙ b);
        closes = (let e = sum_same k k₂ (λ c. refl) l.shape.cores in omega (arith, f.closes));
        opened = λ t m. without_present _ _ _ (f.opened t m);
        known = λ t h. f.known t (present_without _ _ _ h);
        writes = f.writes;
        saved = f.saved;
      }

-- ---- a history whose transactions have come as far stays a chain, whatever is kept
module _ {Txn : Type 0} (s s' : Status Txn) (closed : (t : Txn) → s'.closed t ≡ s.closed t) (retired : (t : Txn) → s'.retired t ≡ s.retired t)
    (stamp : (t : Txn) → s'.stamp t ≡ s.stamp t) (names : (t u : Txn) → s'.names t u ≡ s.names t u) (h h' : Txn → Bool) (same : (t : Txn) → h' t ≡ h t) where
  older_same : {t u : Txn} → Older s h t u → Older s' h' t u
  older_same {t} {u} o =
      record {
        is_closed_lem = rw (closed u) o.is_closed_lem;
        lower = λ c. rw (stamp t, stamp u) (o.lower (rw (closed t) at c));
        retires_first = λ c. rw (retired u) (o.retires_first (rw (same t) at c));
      }

  link_same : {t u : Txn} → Link s h t u → Link s' h' t u
  link_same (inl p) = inl p
  link_same {t} {u} (inr (o, inl d)) = inr (older_same o, inl (rw (names t u) d))
  link_same {t} {u} (inr (o, inr d)) = inr (older_same o, inr (rw (retired u) d))

  module _ {Image : Type 0} where
    own_same : (e : Event Txn Image) → WriterHolds s h e → WriterHolds s' h' e
    own_same e o =
        record {
          writer_holder = ⊎_elim inl (λ d. inr (rw (names e.writer e.holder) d.0, rw (names e.holder e.writer) d.1)) o.writer_holder;
          stored = λ r. rw (same e.holder) (o.stored (rw (retired e.holder) at r));
        }

    next_same : (t : Txn) (es : List (Event Txn Image)) → LinkNext s h t es → LinkNext s' h' t es
    next_same t [] n = n
    next_same t (e ∷ es) n = link_same n

    chain_same : (es : List (Event Txn Image)) → Chain s h es → Chain s' h' es
    chain_same [] c = c
    chain_same (e ∷ es) c = (own_same e c.0, next_same e.holder es c.1, chain_same es c.2)

-- ---- the histories stay good
without_homed : (b : ℕ) (bs : List ℕ) (x : Bool) (g : Stage) → (So x → g ≡ committed 0) → homed_by b bs (stage_without x (length bs) g) ≡ homed_by b bs g
unfolding any
without_homed b bs x g z =
    cases x (λ h. rw (h, z h) refl)
    (λ h. rw h (by_stage (λ g. homed_by b bs (stage_without false (length bs) g) ≡ homed_by b bs g) refl refl (λ m. refl) (λ m. refl) refl g))

module _ {home : ℕ → Bytes} {l : Ledger} (v : Inv home l) (f : WellFormed l) (lost : Name → Bool) (last : Last l lost)
    -- whoever stored home or retired is kept without the lost commits
    (safe : (t : Name) → (So (is_retired (stage_of l.book t)) ⊎ ((b : ℕ) × So (homed l b t))) → So (member_of (kept (book_without lost l.book)) t)) where
  same_homed : (b : ℕ) (t : Name) → homed (ledger_without lost l) b t ≡ homed l b t
  unfolding book_without
  same_homed b t = without_homed b (l.book.entry t).blocks (lost t) (stage_of l.book t) (λ h. (last t h).0)

  block_without : (b : ℕ) → BlockInv (status (ledger_without lost l)) (homed (ledger_without lost l) b) (area_before l b) (home b) (history_of l b)
  unfolding book_without
  block_without b =
      let l₂ = ledger_without lost l in
      let g = v.block_inv b in
      record {
        chain =
            chain_same (status l) (status l₂) (stage_closed lost l.book) (stage_retired lost l.book) (λ t. refl) (λ t u. refl) (homed l b) (homed l₂ b)
            (unfold book_without in same_homed b) (history_of l b) g.chain;
        at_home = subst (λ (h : Name → Bool). home b ≡ value (area_before l b) (upto h (history_of l b))) (fun_ext (λ t. sym (unfold book_without in same_homed b t))) g.at_home;
        homed_kept = λ t h. unfold book_without in safe t (inr (b, sym (same_homed b t) ∙ h));
      }

  known_without : AllOpened (book_without lost l.book)
  unfolding book_without
  known_without t h = v.known t (sym (without_opened (lost t) (length (l.book.entry t).blocks) (stage_of l.book t)) ∙ h)

  pub inv_without : Inv home (ledger_without lost l)
  inv_without =
      record {
        block_inv = unfold book_without in block_without;
        took = unfold book_without in v.took;
        taken = unfold book_without in v.taken;
        stamps = λ t h. v.stamps t (sym (stage_closed lost l.book t) ∙ h);
        known = known_without;
        retired_kept = λ t h. safe t (inl (sym (stage_retired lost l.book t) ∙ h));
      }

pub imaged_without : (l : Ledger) (lost : Name → Bool) → Imaged l → Imaged (ledger_without lost l)
imaged_without l lost i = unfold book_without in (λ t h. i t (sym (stage_closed lost l.book t) ∙ h))
