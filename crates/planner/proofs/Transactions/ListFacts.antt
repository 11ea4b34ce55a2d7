-- The ledger's list against the card: how many commands its transactions can take at most; that all of them run exactly where every journal
-- is empty and nothing is closed, and that there are none exactly where nothing runs besides.
use Rattle.model.proofs.Base.{ℕ, zero, suc, ◌+◌, ◌-◌, ◌*◌, ◌≤◌, ◌<◌, arith, ◌≡◌, refl, sym, ap, ap₂, ◌∙◌}
use Rattle.model.proofs.Base.{Bool, true, false, not, cond, ◌&&◌, List, [], ◌∷◌, ◌++◌, Memᴰ, mem_head, mem_tail, length, flat_map, below, all}
use mathlib.Core.Bool.{and_assoc, and-true}
use Rattle.model.specs.Lists.{total}
use Rattle.model.specs.Card.{core_of}
use Rattle.model.specs.Command.{World}
use Rattle.model.specs.Journal.{journal, journals}
use Rattle.model.specs.Checkpoint.{committed_of}
use Rattle.model.specs.Bytes.{Bytes}
use Rattle.model.specs.Recovery.{shape_on, tail_on, layout_on, committed_by, committed_on}
use Rattle.model.specs.declared.Shape.{Shape}
use Rattle.model.specs.declared.Tail.{Tail}
use Rattle.model.specs.declared.Core.{Core}
use Rattle.model.specs.declared.Committed.{Committed}
use Rattle.model.specs.declared.CommitLayout.{CommitLayout}
use Rattle.model.specs.declared.CommitLayout.TheVariants.{Numbers}
use Rattle.model.proofs.Lists.{cases, mem_below, flat_map_append, all_append}
use Rattle.model.proofs.Totals.{total_append}
use Rattle.crash.specs.Book.{has_running}
use Rattle.crash.specs.Ledger.{Ledger, record_blocks}
use Rattle.crash.proofs.Books.BookEntries.{next_name}
use Rattle.crash.proofs.Disk.Relation.{CardUp}
use Rattle.crash.proofs.Disk.ReadMaster.{master_stands, shape_up, shape_read, tail_read, layout_read}
use Rattle.crash.proofs.Disk.ReadRecords.{few_records, journal_read}
use Rattle.crash.proofs.Disk.ReadCheckpoint.{committed_of_lem}
use Rattle.planner.specs.Plan.{Unretired, committed_as, committed_ones, closed_as, running_as, unretired_of, unretired_now, most_commands, runs}
use Rattle.planner.specs.Emptying.{cores_of, runs_on, closed_on, is_empty, only_running, is_emptied}
use Rattle.planner.proofs.Transactions.LedgerList.{entry_as, entries_from, closed_of, running_of, core_list, ledger_list}

-- core c's journal as recovery would read it
abbrev journal_on : Bytes → ℕ → List Committed
journal_on d c = journal (layout_on d) (shape_on d) d c (tail_on d c) (shape_on d).journal

-- ---- at most so many commands
total_flat : {A : Type 0} (f : A → ℕ) (g : ℕ → List A) (n : ℕ) → ((i : ℕ) → i < n → total f (g i) ≤ 48) → total f (flat_map g (below n)) ≤ n * 48
unfolding total flat_map below
total_flat f g zero h = omega arith
total_flat f g (suc n) h =
    let e : total f (flat_map g (below (suc n))) ≡ total f (flat_map g (below n)) + (total f (g n) + 0) =
    ap (total f) (flat_map_append g (below n) (n ∷ []))
    ∙ total_append f (flat_map g (below n)) (g n ++ [])
    ∙ ap (λ (m : ℕ). total f (flat_map g (below n)) + m) (total_append f (g n) []) in
    omega (arith, total_flat f g n (λ i a. h i (omega arith)), h n (omega arith))

total_entries : (l : Ledger) (c i n : ℕ) → total most_commands (entries_from l c i n) ≡ 2 * record_blocks l.book c i n
unfolding total entries_from entry_as most_commands record_blocks
total_entries l c i zero = refl
total_entries l c i (suc n) = omega (arith, total_entries l c (suc i) n)

total_running : (l : Ledger) (c : ℕ) → has_running l.book c ≡ true
    → total most_commands (running_of l c) ≡ 2 * (length (l.book.entry (next_name c l.book)).blocks + 2)
unfolding total running_of entry_as most_commands
total_running l c h = rw h (omega arith)

total_idle : (l : Ledger) (c : ℕ) → has_running l.book c ≡ false → total most_commands (running_of l c) ≡ 0
unfolding total running_of
total_idle l c h = rw h refl

module _ {l : Ledger} {w : World} (u : CardUp l w) where
  -- their records fit into the journal
  core_total : (c : ℕ) → c < l.shape.cores → total most_commands (core_list l c) ≤ 48
  unfolding core_list closed_of
  core_total c h =
      let o = l.book.oldest c in
      let n = l.book.next c - o in
      let j = u.disk.journals c h in
      let s = total_append most_commands (entries_from l c o n) (running_of l c) in
      let e = total_entries l c o n in
      let short = u.well_formed.range.short in
      cases (has_running l.book c)
      (λ r. omega (arith, s, e, short, total_running l c r, j.reserved r))
      (λ r. omega (arith, s, e, short, total_idle l c r, j.room))

  pub total_blocks : total most_commands (ledger_list l) ≤ 384
  unfolding ledger_list
  total_blocks = omega (arith, total_flat most_commands (core_list l) l.shape.cores core_total, u.well_formed.range.few_cores)

  -- ---- the cores
  pub cores_up : cores_of w ≡ below l.shape.cores
  cores_up = ap (λ (s : Shape). below s.cores) (shape_up u)

  -- recovery would read what CHECKPOINT and RETIRE read
  journal_on_up : (c : ℕ) → c < l.shape.cores → journal_on w.disk c ≡ committed_of w c
  journal_on_up c h =
      let f = u.well_formed in
      let z = u.disk in
      ap₂ (λ (y : CommitLayout) (s : Shape). journal y s w.disk c (tail_on w.disk c) s.journal) (layout_read f z) (shape_read f z)
      ∙ ap (λ (t : Tail). journal Numbers l.shape w.disk c t l.shape.journal) (tail_read f z c h)
      ∙ journal_read f z c h l.shape.journal (few_records f z c h)
      ∙ sym (committed_of_lem u c h)

-- ---- empty
module _ {A : Type 0} where
  all_flat : (q : A → Bool) (f : ℕ → List A) (p : ℕ → Bool) (is : List ℕ) → ((i : ℕ) → Memᴰ i is → p i ≡ all q (f i)) → all p is ≡ all q (flat_map f is)
  unfolding all flat_map
  all_flat q f p [] h = refl
  all_flat q f p (i ∷ is) h =
      ap₂ ◌&&◌ (h i (mem_head refl)) (all_flat q f p is (λ j m. h j (mem_tail m))) ∙ sym (all_append q (f i) (flat_map f is))

  -- a list is empty where all its elements meet what none does
  empty_all : (xs : List A) → is_empty xs ≡ all (λ (x : A). false) xs
  unfolding is_empty all
  empty_all [] = refl
  empty_all (x ∷ xs) = refl

  empty_flat : (f : ℕ → List A) (p : ℕ → Bool) (is : List ℕ) → ((i : ℕ) → Memᴰ i is → p i ≡ is_empty (f i)) → all p is ≡ is_empty (flat_map f is)
  empty_flat f p is h = all_flat (λ (x : A). false) f p is (λ i m. h i m ∙ empty_all (f i)) ∙ sym (empty_all (flat_map f is))

  -- one that is there on a condition
  all_if : (q : A → Bool) (b : Bool) (x : A) → q x ≡ false → all q (cond b (x ∷ []) []) ≡ not b
  unfolding all
  all_if q true x h = rw h refl
  all_if q false x h = refl

all_both : (p q : ℕ → Bool) (is : List ℕ) → (all p is && all q is) ≡ all (λ (i : ℕ). p i && q i) is
unfolding all
all_both p q [] = refl
all_both p q (i ∷ is) = crossed (p i) (all p is) (q i) (all q is) ∙ ap (λ (b : Bool). p i && q i && b) (all_both p q is)
  where
    crossed : (a b c d : Bool) → (a && b && (c && d)) ≡ (a && c && (b && d))
    crossed true true true d = refl
    crossed true true false d = refl
    crossed true false true d = refl
    crossed true false false d = refl
    crossed false b c d = refl

-- ---- those of a core: a test of them that no committed and no closed one meets
abbrev none_stored : World → ℕ → Bool
none_stored w c = is_empty (committed_of w c) && not (closed_on w c)

module _ (q : Unretired → Bool) (not_committed : (h : ℕ) (e : Committed) → q (committed_as h e) ≡ false) (not_closed : (c : ℕ) (k : Core) → q (closed_as c k) ≡ false) where
  committed_tested : (h : ℕ) (es : List Committed) → all q (committed_ones h es) ≡ is_empty es
  unfolding all is_empty committed_ones
  committed_tested h [] = refl
  committed_tested h (e ∷ es) = rw (not_committed h e) refl

  core_tested : (w : World) (c : ℕ) (b : Bool) → all q (cond (runs_on w c) (running_as c (core_of w.card c) ∷ []) []) ≡ b
      → all q (unretired_of w c) ≡ (none_stored w c && b)
  unfolding unretired_of
  core_tested w c b e =
      let k = core_of w.card c in
      let cs = cond k.closed.live (closed_as c k ∷ []) [] in
      let rs = cond k.running.live (running_as c k ∷ []) [] in
      all_append q (committed_ones k.homed (committed_of w c)) (cs ++ rs)
      ∙ ap₂ ◌&&◌ (committed_tested k.homed (committed_of w c)) (all_append q cs rs ∙ ap₂ ◌&&◌ (all_if q k.closed.live (closed_as c k) (not_closed c k)) e)
      ∙ sym (and_assoc (is_empty (committed_of w c)) (not (closed_on w c)) b)

empty_core : (w : World) (c : ℕ) → is_empty (unretired_of w c) ≡ (none_stored w c && not (runs_on w c))
empty_core w c =
    let q : Unretired → Bool = λ u. false in
    empty_all (unretired_of w c)
    ∙ core_tested q (λ h e. refl) (λ c k. refl) w c (not (runs_on w c)) (all_if q (runs_on w c) (running_as c (core_of w.card c)) refl)

runs_core : (w : World) (c : ℕ) → all runs (unretired_of w c) ≡ none_stored w c
unfolding runs committed_as closed_as running_as all
runs_core w c =
    core_tested runs (λ h e. refl) (λ c k. refl) w c true (cases (runs_on w c) (λ e. rw e refl) (λ e. rw e refl))
    ∙ and-true (none_stored w c)

-- what recovery would find, and what is closed, by core
module _ {l : Ledger} {w : World} (u : CardUp l w) where
  stored_cores : only_running w ≡ all (none_stored w) (cores_of w)
  unfolding only_running committed_by journals
  stored_cores =
      let d = w.disk in
      let e : below (shape_on d).cores ≡ cores_of w = ap (λ (s : Shape). below s.cores) (shape_read u.well_formed u.disk ∙ sym (shape_up u)) in
      let found : is_empty (committed_on d) ≡ all (λ (c : ℕ). is_empty (committed_of w c)) (cores_of w) =
      ap (λ (cs : List ℕ). is_empty (flat_map (journal_on d) cs)) e
      ∙ sym (empty_flat (journal_on d) (λ (c : ℕ). is_empty (committed_of w c)) (cores_of w)
      (λ c m. ap is_empty (sym (journal_on_up u c (mem_below l.shape.cores (rw (cores_up u) at m)))))) in
      ap₂ (λ (a b : Bool). a && b && all (λ (c : ℕ). not (closed_on w c)) (cores_of w)) (master_stands u.well_formed u.disk) found
      ∙ all_both (λ (c : ℕ). is_empty (committed_of w c)) (λ (c : ℕ). not (closed_on w c)) (cores_of w)

  pub running_up : only_running w ≡ all runs (unretired_now w)
  unfolding unretired_now
  running_up = stored_cores ∙ all_flat runs (unretired_of w) (none_stored w) (cores_of w) (λ c m. sym (runs_core w c))

  pub emptied_up : is_emptied w ≡ is_empty (unretired_now w)
  unfolding is_emptied unretired_now
  emptied_up =
      ap (λ (b : Bool). b && all (λ (c : ℕ). not (runs_on w c)) (cores_of w)) stored_cores
      ∙ all_both (none_stored w) (λ (c : ℕ). not (runs_on w c)) (cores_of w)
      ∙ empty_flat (unretired_of w) (λ (c : ℕ). none_stored w c && not (runs_on w c)) (cores_of w) (λ c m. sym (empty_core w c))
