-- What STORE, CHECKPOINT and RETIRE carried out make of the ledger's list of unretired transactions: one of them is replaced, by
-- itself further on or, retired, by nothing, and the work left falls by one command.
use Rattle.model.proofs.Base.{ℕ, suc, ◌+◌, ◌≤◌, ◌<◌, arith, true, false, ltb, ltb-true, ltb-false, ◌≡◌, refl, ap, subst, ◌∙◌, ◌≢◌}
use Rattle.model.proofs.Base.{false, cond, List, [], ◌∷◌, length}
use Rattle.model.specs.Lists.{total}
use Rattle.model.specs.Card.{new_name}
use Rattle.model.specs.declared.Name.{Name}
use Rattle.crash.specs.Book.{Stage, Book, closed, committed, retired, is_running, store_book, checkpoint_book, retire_book, raise}
use Rattle.crash.specs.Ledger.{Ledger, with_book, home_left}
use Rattle.crash.proofs.Books.BookEntries.{oldest_name, uncommitted_name, raise_at, raise_other}
use Rattle.crash.proofs.Books.BookSteps.{restaged, restages, checkpoint_home, retire_restages}
use Rattle.crash.proofs.Disk.Relation.{Ranks, WellFormed}
use Rattle.crash.proofs.Disk.LedgerRanks.{store_by}
use Rattle.planner.specs.Plan.{Unretired, closes_for, stores_for, closes_left, stores_left, commands_left, runs}
use Rattle.planner.proofs.Transactions.Replaced.{Replaced}
use Rattle.planner.proofs.Transactions.LedgerList.{staged_as, entry_as, ledger_list, entry_is}
use Rattle.planner.proofs.Transactions.ListChanges.{entry_same, list_replaced, core_moved, core_retired}

-- ---- what is said of each
-- STORE and a home store: it is further on, with the same name, stamp and count of blocks
pub record Advanced (us vs : List Unretired) (a b : Unretired) : Type 0 where
  pub replaced : Replaced us vs a (b ∷ [])
  pub name : b.name ≡ a.name
  pub stamp : b.stamp ≡ a.stamp
  pub count : b.count ≡ a.count
  pub closed_before : runs a ≡ false
  pub closed_after : runs b ≡ false
  pub commands : commands_left a ≡ suc (commands_left b)
  pub stores : stores_left a ≡ suc (stores_left b)

-- the master store that retires it
pub record Removed (us vs : List Unretired) (a : Unretired) : Type 0 where
  pub replaced : Replaced us vs a []
  pub closed_before : runs a ≡ false
  pub commands : commands_left a ≡ 1
  pub stores : stores_left a ≡ 1

-- the work falls by one command, of which so many store
pub record Lowered (us vs : List Unretired) (stored : ℕ) : Type 0 where
  pub a : Unretired
  pub bs : List Unretired
  pub replaced : Replaced us vs a bs
  pub commands : commands_left a ≡ suc (total commands_left bs)
  pub stores : stores_left a ≡ stored + total stores_left bs

pub advanced_lowered : {us vs : List Unretired} {a b : Unretired} → Advanced us vs a b → Lowered us vs 1
unfolding total
advanced_lowered {a = a} {b} r =
    record {
      a = a;
      bs = b ∷ [];
      replaced = r.replaced;
      commands = omega (arith, r.commands);
      stores = omega (arith, r.stores);
    }

removed_lowered : {us vs : List Unretired} {a : Unretired} → Removed us vs a → Lowered us vs 1
unfolding total
removed_lowered {a = a} r = record { a = a; bs = []; replaced = r.replaced; commands = r.commands; stores = r.stores }

-- ---- one transaction gets another stage
module _ (l : Ledger) (c j : ℕ) (g : Stage) (o u n : ℕ → ℕ) where
  abbrev t : Name
  t = new_name c j

  abbrev after : Ledger
  after = with_book l (restaged t g o u n l.book)

  restaged_other : (v : Name) → v ≢ t → entry_as after v ≡ entry_as l v
  restaged_other v ne = entry_same l after v ((restages t g o u n l.book).other v ne) refl

  restaged_entry : entry_as after t ≡ staged_as l t g
  restaged_entry =
      let r = restages t g o u n l.book in
      entry_is after t g r.stage
      ∙ ap (λ (m : ℕ). record { name = t; stamp = cond (is_running g) 0 (l.stamp t); count = m; stage = g }) (ap length (r.blocks t))

module _ (l : Ledger) (c j : ℕ) (in_range_lem : c < l.shape.cores) (low : l.book.oldest c ≤ j) (high : j < l.book.next c) where
  -- in its place
  moved : (g : Stage) (u : ℕ → ℕ) → let k' = restaged (new_name c j) g l.book.oldest u l.book.next l.book in
      Replaced (ledger_list l) (ledger_list (with_book l k')) (entry_as l (new_name c j)) (staged_as l (new_name c j) g ∷ [])
  moved g u =
      let k' = restaged (new_name c j) g l.book.oldest u l.book.next l.book in
      let other = restaged_other l c j g l.book.oldest u l.book.next in
      subst (λ (b : Unretired). Replaced (ledger_list l) (ledger_list (with_book l k')) (entry_as l (new_name c j)) (b ∷ []))
      (restaged_entry l c j g l.book.oldest u l.book.next)
      (list_replaced l (with_book l k') c j other in_range_lem refl (λ a ne. refl) (λ a ne. refl) (core_moved l (with_book l k') c j other low high refl refl)).0

  -- the oldest out of it
  removed : (g : Stage) → l.book.oldest c ≡ j →
      let k' = restaged (new_name c j) g (raise c l.book.oldest) l.book.uncommitted l.book.next l.book in
      Replaced (ledger_list l) (ledger_list (with_book l k')) (entry_as l (new_name c j)) []
  removed g e =
      let k' = restaged (new_name c j) g (raise c l.book.oldest) l.book.uncommitted l.book.next l.book in
      let other = restaged_other l c j g (raise c l.book.oldest) l.book.uncommitted l.book.next in
      (list_replaced l (with_book l k') c j other in_range_lem refl (λ a ne. raise_other c l.book.oldest a ne) (λ a ne. refl)
      (core_retired l (with_book l k') c j other low high refl e (raise_at c l.book.oldest ∙ ap suc e))).0

  -- with the work left by the two stages
  advances : (s g : Stage) (u : ℕ → ℕ) → let k' = restaged (new_name c j) g l.book.oldest u l.book.next l.book in
      let m = length (l.book.entry (new_name c j)).blocks in
      (l.book.entry (new_name c j)).stage ≡ s → is_running s ≡ false → is_running g ≡ false → closes_for s ≡ closes_for g → stores_for s m ≡ suc (stores_for g m)
      → Advanced (ledger_list l) (ledger_list (with_book l k')) (entry_as l (new_name c j)) (staged_as l (new_name c j) g)
  unfolding runs commands_left closes_left stores_left
  advances s g u e p q same fewer =
      let t = new_name c j in
      let a = entry_is l t s e in
      record {
        replaced = moved g u;
        name = rw a refl;
        stamp = rw (a, p, q) refl;
        count = rw a refl;
        closed_before = rw a p;
        closed_after = q;
        commands = rw a (omega arith);
        stores = rw a fewer;
      }

-- ---- STORE
module _ {l : Ledger} (f : WellFormed l) (c : ℕ) (in_range_lem : c < l.shape.cores) where
  abbrev k : Book
  k = l.book

  ranks : Ranks k c
  ranks = f.ranks c in_range_lem

  pub store_list : k.uncommitted c < k.next c
      → (b : Unretired) × Advanced (ledger_list l) (ledger_list (with_book l (store_book c k))) (entry_as l (uncommitted_name c k)) b
  unfolding closes_for stores_for
  store_list busy =
      let t = uncommitted_name c k in
      let by = advances l c (k.uncommitted c) in_range_lem ranks.low busy in
      store_by k c ranks (λ (k' : Book). (b : Unretired) × Advanced (ledger_list l) (ledger_list (with_book l k')) (entry_as l t) b) busy
      (λ n e h. (staged_as l t (closed (suc n)), by (closed n) (closed (suc n)) k.uncommitted e refl refl refl (omega arith)))
      (λ n e h. (staged_as l t (committed 0), by (closed n) (committed 0) (raise c k.uncommitted) e refl refl refl (omega arith)))

  -- ---- CHECKPOINT
  module _ (some : k.oldest c < k.uncommitted c) {m : ℕ} (stage : (k.entry (oldest_name c k)).stage ≡ committed m) where
    low_next : k.oldest c < k.next c
    low_next = omega (arith, ranks.mid)

    pub home_list : m < length (k.entry (oldest_name c k)).blocks
        → Advanced (ledger_list l) (ledger_list (with_book l (checkpoint_book c k))) (entry_as l (oldest_name c k)) (staged_as l (oldest_name c k) (committed (suc m)))
    unfolding closes_for stores_for
    home_list h =
        rw (checkpoint_home c m k stage)
        (advances l c (k.oldest c) in_range_lem (omega arith) low_next (committed m) (committed (suc m)) k.uncommitted stage refl refl refl (omega arith))

    pub retire_list : m ≡ length (k.entry (oldest_name c k)).blocks
        → Removed (ledger_list l) (ledger_list (with_book l (retire_book c k))) (entry_as l (oldest_name c k))
    unfolding runs commands_left closes_left stores_left closes_for stores_for
    retire_list h =
        let a = entry_is l (oldest_name c k) (committed m) stage in
        rw (retire_restages c m k)
        (record {
          replaced = removed l c (k.oldest c) in_range_lem (omega arith) low_next retired refl;
          closed_before = rw a refl;
          commands = rw a (omega arith);
          stores = rw a (omega arith);
        })

  pub checkpoint_lowered : k.oldest c < k.uncommitted c → home_left c k ≡ true → Lowered (ledger_list l) (ledger_list (with_book l (checkpoint_book c k))) 1
  checkpoint_lowered some left =
      let s = ranks.first some in
      let z : ltb s.0 (length (k.entry (oldest_name c k)).blocks) ≡ true = rw s.1 at left in
      advanced_lowered (home_list some s.1 (ltb-true _ _ z))

  pub retire_lowered : k.oldest c < k.uncommitted c → home_left c k ≡ false → Lowered (ledger_list l) (ledger_list (with_book l (retire_book c k))) 1
  retire_lowered some left =
      let s = ranks.first some in
      let z : ltb s.0 (length (k.entry (oldest_name c k)).blocks) ≡ false = rw s.1 at left in
      removed_lowered (retire_list some s.1 (omega (arith, ltb-false s.0 (length (k.entry (oldest_name c k)).blocks) z, s.2)))
