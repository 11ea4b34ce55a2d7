-- The unretired transactions as the ledger has them: of each core those from its oldest to its last closed one, then the running one. On a
-- card that is up these are the ones that the planner lists (`list_up`).
use Rattle.model.proofs.Base.{ℕ, zero, suc, ◌+◌, ◌-◌, ◌%◌, ◌≤◌, ◌<◌, arith, ℕ_discrete, ◌≡◌, refl, sym, ap, ap₂, ◌∙◌, cond}
use Rattle.model.proofs.Base.{List, [], ◌∷◌, ◌++◌, map, append_assoc, append-nil, length, flat_map, below}
use Rattle.model.specs.Card.{new_name, taken, core_of, tail_of}
use Rattle.model.specs.Command.{World}
use Rattle.model.specs.Checkpoint.{committed_of}
use Rattle.model.specs.declared.Name.{Name}
use Rattle.model.specs.declared.Core.{Core}
use Rattle.model.specs.declared.Shape.{Shape}
use Rattle.model.proofs.Lists.{cases, flat_map_below}
use Rattle.crash.specs.Book.{Stage, Book, is_running, has_running, closed, committed, running}
use Rattle.crash.specs.Ledger.{Ledger}
use Rattle.crash.proofs.Books.BookEntries.{next_name, uncommitted_name}
use Rattle.crash.proofs.Disk.Relation.{Ranks, CoreUp, CardUp}
use Rattle.crash.proofs.Disk.LedgerStages.{running_is}
use Rattle.crash.proofs.Disk.ReadMaster.{shape_up}
use Rattle.crash.proofs.Disk.RecordFormat.{read_from, read_list}
use Rattle.crash.proofs.Disk.ReadCheckpoint.{committed_of_lem}
use Rattle.planner.specs.Plan.{Unretired, committed_as, committed_ones, closed_as, running_as, unretired_of, unretired_now}

-- ---- the list
-- a transaction with this stage; a running one has no stamp yet
abbrev pub staged_as : Ledger → Name → Stage → Unretired
staged_as l t g = record { name = t; stamp = cond (is_running g) 0 (l.stamp t); count = length (l.book.entry t).blocks; stage = g }

-- a transaction as the ledger has it
unfoldable pub entry_as : Ledger → Name → Unretired
entry_as l t = staged_as l t (l.book.entry t).stage

-- n of core c, from number i on
unfoldable pub entries_from : Ledger → ℕ → ℕ → ℕ → List Unretired
entries_from l c i zero = []
entries_from l c i (suc n) = entry_as l (new_name c i) ∷ entries_from l c (suc i) n

-- core c's from its oldest to its last closed one
unfoldable pub closed_of : Ledger → ℕ → List Unretired
closed_of l c = entries_from l c (l.book.oldest c) (l.book.next c - l.book.oldest c)

-- its running one
unfoldable pub running_of : Ledger → ℕ → List Unretired
running_of l c = cond (has_running l.book c) (entry_as l (next_name c l.book) ∷ []) []

unfoldable pub core_list : Ledger → ℕ → List Unretired
core_list l c = closed_of l c ++ running_of l c

unfoldable pub ledger_list : Ledger → List Unretired
ledger_list l = flat_map (core_list l) (below l.shape.cores)

-- ---- laws
pub entry_is : (l : Ledger) (t : Name) (g : Stage) → (l.book.entry t).stage ≡ g → entry_as l t ≡ staged_as l t g
unfolding entry_as
entry_is l t g e = ap (staged_as l t) e

entries_append : (l : Ledger) (c i n m : ℕ) → entries_from l c i (n + m) ≡ entries_from l c i n ++ entries_from l c (i + n) m
unfolding entries_from
entries_append l c i zero m = let e : 0 + m ≡ m = omega arith in let g : i + 0 ≡ i = omega arith in rw (e, g)
entries_append l c i (suc n) m =
    let e : suc n + m ≡ suc (n + m) = omega arith in
    let g : i + suc n ≡ suc i + n = omega arith in
    rw (e, g) (ap (λ (us : List Unretired). entry_as l (new_name c i) ∷ us) (entries_append l c (suc i) n m))

-- one of them apart, by its number
pub entries_at : (l : Ledger) (c i j n : ℕ) → i ≤ j → j < n
    → entries_from l c i (n - i) ≡ entries_from l c i (j - i) ++ (entry_as l (new_name c j) ∷ entries_from l c (suc j) (n - suc j))
unfolding entries_from
entries_at l c i j n a b =
    let e : n - i ≡ (j - i) + suc (n - suc j) = omega arith in
    let g : i + (j - i) ≡ j = omega arith in
    ap (entries_from l c i) e
    ∙ entries_append l c i (j - i) (suc (n - suc j))
    ∙ ap (λ (k : ℕ). entries_from l c i (j - i) ++ entries_from l c k (suc (n - suc j))) g

-- ---- what is read
module _ (l : Ledger) (c : ℕ) where
  all_read : (i p n : ℕ) → ((j : ℕ) → i ≤ j → j < i + n → (l.book.entry (new_name c j)).stage ≡ committed 0)
      → map (committed_as 0) (read_from l c i p n) ≡ entries_from l c i n
  unfolding read_from entries_from committed_as
  all_read i p zero h = refl
  all_read i p (suc n) h =
      ap₂ ◌∷◌ (sym (entry_is l (new_name c i) (committed 0) (h i (omega arith) (omega arith))))
      (all_read (suc i) ((p + (length (l.book.entry (new_name c i)).blocks + 2)) % l.shape.journal) n (λ j a b. h j (omega arith) (omega arith)))

  first_read : (g i p n : ℕ) → (0 < n → (l.book.entry (new_name c i)).stage ≡ committed g)
      → ((j : ℕ) → i < j → j < i + n → (l.book.entry (new_name c j)).stage ≡ committed 0)
      → committed_ones g (read_from l c i p n) ≡ entries_from l c i n
  unfolding read_from entries_from committed_as committed_ones
  first_read g i p zero f h = refl
  first_read g i p (suc n) f h =
      ap₂ ◌∷◌ (sym (entry_is l (new_name c i) (committed g) (f (omega arith))))
      (all_read (suc i) ((p + (length (l.book.entry (new_name c i)).blocks + 2)) % l.shape.journal) n (λ j a b. h j (omega arith) (omega arith)))

module _ {l : Ledger} {w : World} (u : CardUp l w) (c : ℕ) (in_range_lem : c < l.shape.cores) where
  abbrev k : Book
  k = l.book

  abbrev x : Core
  x = core_of w.card c

  ranks : Ranks k c
  ranks = u.well_formed.ranks c in_range_lem

  own : CoreUp l w.memory c x
  own = u.cores c in_range_lem

  committed_list : committed_ones x.homed (committed_of w c) ≡ entries_from l c (k.oldest c) (k.uncommitted c - k.oldest c)
  unfolding read_list
  committed_list =
      ap (committed_ones x.homed) (committed_of_lem u c in_range_lem)
      ∙ first_read l c x.homed (k.oldest c) (tail_of w.card c).position (k.uncommitted c - k.oldest c)
      (λ h. own.homed (omega arith))
      (λ j a b. ranks.done j a (omega (arith, ranks.low)))

  closed_is : k.uncommitted c < k.next c → closed_as c x ≡ entry_as l (uncommitted_name c k)
  unfolding closed_as
  closed_is h =
      let s = own.stored h in
      let e : x.next - 1 ≡ k.uncommitted c = omega (arith, own.next, own.one) in
      let b : length (taken x.closed) ≡ length (k.entry (uncommitted_name c k)).blocks = ap length (own.closing h).blocks in
      rw (e, s.1, b) (sym (entry_is l (uncommitted_name c k) (closed x.stored) s.0))

  closed_list : entries_from l c (k.oldest c) (k.uncommitted c - k.oldest c) ++ cond x.closed.live (closed_as c x ∷ []) [] ≡ closed_of l c
  unfolding closed_of
  closed_list =
      elim (ℕ_discrete (k.uncommitted c) (k.next c)) [
        | yes e ↦ rw (own.none_closing e) (append-nil _ ∙ ap (λ (n : ℕ). entries_from l c (k.oldest c) (n - k.oldest c)) e)
        | no n ↦ (let h : k.uncommitted c < k.next c = omega (arith, ranks.mid) in
            let z : k.next c - suc (k.uncommitted c) ≡ 0 = omega (arith, own.one) in
            let es = entries_from l c (k.oldest c) (k.uncommitted c - k.oldest c) in
            rw (closed_is h, (own.closing h).live)
            (sym (entries_at l c (k.oldest c) (k.uncommitted c) (k.next c) ranks.low h
            ∙ ap (λ (n : ℕ). es ++ (entry_as l (uncommitted_name c k) ∷ entries_from l c (suc (k.uncommitted c)) n)) z
            ∙ (unfold entries_from in refl))))
      ]

  running_list : cond x.running.live (running_as c x ∷ []) [] ≡ running_of l c
  unfolding running_of running_as
  running_list =
      cases (has_running k c)
      (λ h. let m = own.runs h in
      let b : length (taken x.running) ≡ length (k.entry (next_name c k)).blocks = ap length m.blocks in
      rw (h, m.live, own.next, b) (ap (λ (v : Unretired). v ∷ []) (sym (entry_is l (next_name c k) running (running_is _ h)))))
      (λ h. rw (h, own.idle h))

  core_list_lem : unretired_of w c ≡ core_list l c
  unfolding unretired_of core_list
  core_list_lem =
      ap₂ (λ (us vs : List Unretired). us ++ (cond x.closed.live (closed_as c x ∷ []) [] ++ vs)) committed_list running_list
      ∙ sym (append_assoc (entries_from l c (k.oldest c) (k.uncommitted c - k.oldest c)) (cond x.closed.live (closed_as c x ∷ []) []) (running_of l c))
      ∙ ap (λ (us : List Unretired). us ++ running_of l c) closed_list

pub list_up : {l : Ledger} {w : World} → CardUp l w → unretired_now w ≡ ledger_list l
unfolding unretired_now ledger_list
list_up {l} {w} u =
    ap (λ (s : Shape). flat_map (unretired_of w) (below s.cores)) (shape_up u)
    ∙ flat_map_below (unretired_of w) (core_list l) l.shape.cores (core_list_lem u)
