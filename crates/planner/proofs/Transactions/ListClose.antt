-- What CLOSE carried out makes of the ledger's list: the core's running transaction is closed in its place, with a stamp above all others.
use Rattle.model.proofs.Base.{ℕ, suc, ◌-◌, ◌≤◌, ◌<◌, arith, ◌≡◌, refl, ap, ap₂, ◌∙◌, ◌≢◌, true, false, not, cond}
use Rattle.model.proofs.Base.{List, [], ◌∷◌, ◌++◌, append-nil, length, flat_map, below, all}
use Rattle.model.specs.Lists.{total}
use Rattle.model.specs.Card.{new_name}
use Rattle.model.specs.declared.Name.{Name}
use Rattle.model.proofs.Lists.{and_both, all_append}
use Rattle.crash.specs.Book.{Book, running, closed, is_running, has_running, close_book}
use Rattle.crash.specs.Ledger.{Ledger, close_ledger}
use Rattle.crash.proofs.Books.BookEntries.{next_name, other_number, raise_at, raise_other}
use Rattle.crash.proofs.Books.BookSteps.{close_restages, close_book_lem, close_stamp, close_stamp_other}
use Rattle.crash.proofs.Disk.Relation.{WellFormed}
use Rattle.planner.specs.Plan.{Unretired, closes_for, stores_for, closes_left, stores_left, commands_left, runs}
use Rattle.planner.proofs.Transactions.Replaced.{Replaced}
use Rattle.planner.proofs.Transactions.LedgerList.{entry_as, entries_from, closed_of, running_of, core_list, ledger_list, entry_is, entries_at}
use Rattle.planner.proofs.Transactions.ListChanges.{entry_same, list_by, entries_same, list_replaced}
use Rattle.planner.proofs.Transactions.ListSteps.{Lowered}
use Rattle.planner.proofs.Transactions.ListMembers.{closed_idles, below_idles}

-- the running one once it is closed
abbrev pub closed_entry : Ledger → ℕ → Unretired
closed_entry l c =
    let t = next_name c l.book in
    record { name = t; stamp = suc l.closes; count = length (l.book.entry t).blocks; stage = closed 0 }

pub record ClosedNow (l : Ledger) (c : ℕ) : Type 0 where
  pub replaced : Replaced (ledger_list l) (ledger_list (close_ledger c l)) (entry_as l (next_name c l.book)) (closed_entry l c ∷ [])
  -- where no core below runs one, it is the first that runs
  pub first : ((i : ℕ) → i < c → has_running l.book i ≡ false) → all (λ (u : Unretired). not (runs u)) replaced.before ≡ true
  pub name : (entry_as l (next_name c l.book)).name ≡ next_name c l.book
  pub count : (closed_entry l c).count ≡ (entry_as l (next_name c l.book)).count
  pub running_before : runs (entry_as l (next_name c l.book)) ≡ true
  pub closed_after : runs (closed_entry l c) ≡ false
  pub commands : commands_left (entry_as l (next_name c l.book)) ≡ suc (commands_left (closed_entry l c))
  pub stores : stores_left (entry_as l (next_name c l.book)) ≡ stores_left (closed_entry l c)

pub closed_lowered : {l : Ledger} {c : ℕ} → ClosedNow l c → Lowered (ledger_list l) (ledger_list (close_ledger c l)) 0
unfolding total
closed_lowered {l} {c} r =
    record {
      a = entry_as l (next_name c l.book);
      bs = closed_entry l c ∷ [];
      replaced = r.replaced;
      commands = omega (arith, r.commands);
      stores = omega (arith, r.stores);
    }

module _ {l : Ledger} (f : WellFormed l) (c : ℕ) (in_range_lem : c < l.shape.cores) (stage : (l.book.entry (next_name c l.book)).stage ≡ running) where
  abbrev k : Book
  k = l.book

  abbrev l' : Ledger
  l' = close_ledger c l

  abbrev t : Name
  t = next_name c k

  other : (u : Name) → u ≢ t → entry_as l' u ≡ entry_as l u
  other u ne = entry_same l l' u (ap (λ (b : Book). b.entry u) (close_book_lem l c) ∙ (close_restages c k).other u ne) (close_stamp_other l c u ne)

  closed_entry_lem : entry_as l' t ≡ closed_entry l c
  closed_entry_lem =
      let r = close_restages c k in
      let s : (l'.book.entry t).stage ≡ closed 0 = ap (λ (b : Book). (b.entry t).stage) (close_book_lem l c) ∙ r.stage in
      let n : length (l'.book.entry t).blocks ≡ length (k.entry t).blocks =
      ap length (ap (λ (b : Book). (b.entry t).blocks) (close_book_lem l c) ∙ r.blocks t) in
      entry_is l' t (closed 0) s ∙ ap₂ (λ (x y : ℕ). record { name = t; stamp = x; count = y; stage = closed 0 }) (close_stamp l c) n

  next_raised : l'.book.next c ≡ suc (k.next c)
  unfolding close_ledger close_book
  next_raised = raise_at c k.next

  next_other : (a : ℕ) → a ≢ c → l'.book.next a ≡ k.next a
  unfolding close_ledger close_book
  next_other = raise_other c k.next

  oldest_same : (a : ℕ) → l'.book.oldest a ≡ k.oldest a
  unfolding close_ledger close_book
  oldest_same a = refl

  cores_same : l'.shape.cores ≡ l.shape.cores
  unfolding close_ledger
  cores_same = refl

  -- the next number is not open yet
  none_runs : running_of l' c ≡ []
  unfolding running_of
  none_runs =
      let n = suc (k.next c) in
      let s : is_running (l'.book.entry (new_name c n)).stage ≡ false =
      ap (λ (b : Book). is_running (b.entry (new_name c n)).stage) (close_book_lem l c)
      ∙ ap (λ e. is_running e.stage) ((close_restages c k).other (new_name c n) (other_number c (λ e. omega arith)))
      ∙ ap is_running ((f.ranks c in_range_lem).rest n (omega arith)) in
      ap (λ (m : ℕ). cond (is_running (l'.book.entry (new_name c m)).stage) (entry_as l' (new_name c m) ∷ []) []) next_raised ∙ rw s refl

  list_was : core_list l c ≡ closed_of l c ++ (entry_as l t ∷ [])
  unfolding core_list running_of
  list_was = rw (ap is_running stage) refl

  list_is : core_list l' c ≡ closed_of l c ++ (closed_entry l c ∷ [])
  unfolding closed_of entries_from
  list_is =
      let o = k.oldest c in
      let n = k.next c in
      let r = f.ranks c in_range_lem in
      let z : suc n - suc n ≡ 0 = omega arith in
      let low : o ≤ n = omega (arith, r.low, r.mid) in
      list_by l' c (oldest_same c) next_raised
      ∙ ap₂ ◌++◌ (entries_at l' c o n (suc n) low (omega arith)) none_runs
      ∙ append-nil (entries_from l' c o (n - o) ++ (entry_as l' t ∷ entries_from l' c (suc n) (suc n - suc n)))
      ∙ ap₂ (λ (us : List Unretired) (m : ℕ). us ++ (entry_as l' t ∷ entries_from l' c (suc n) m))
      (entries_same l l' c n other c o (n - o) (λ m p q. other_number c (λ e. omega arith))) z
      ∙ ap (λ (u : Unretired). entries_from l c o (n - o) ++ (u ∷ [])) closed_entry_lem

  abbrev core_closed : Replaced (core_list l c) (core_list l' c) (entry_as l t) (closed_entry l c ∷ [])
  core_closed = record { before = closed_of l c; after = []; was = list_was; is = list_is }

  pub close_list : ClosedNow l c
  unfolding entry_as runs commands_left closes_left stores_left closes_for stores_for
  close_list =
      let z = list_replaced l l' c (k.next c) other in_range_lem cores_same (λ a ne. oldest_same a) next_other core_closed in
      record {
        replaced = z.0;
        first =
            λ none.
            ap (all (λ (u : Unretired). not (runs u))) z.1
            ∙ all_append (λ (u : Unretired). not (runs u)) (flat_map (core_list l) (below c)) (closed_of l c)
            ∙ and_both (below_idles f c (omega arith) none) (closed_idles f c in_range_lem);
        name = refl;
        count = refl;
        running_before = ap is_running stage;
        closed_after = refl;
        commands = rw stage (omega arith);
        stores = rw stage (omega arith);
      }
