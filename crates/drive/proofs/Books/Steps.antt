-- Service book and ledger of a drive, command by command: what a cut by any marks keeps is the same in both.
use Prim.Native.Nat.{ℕ, suc, ◌+◌, ◌≤◌}
use native.Mathlib.Omega.{arith}
use mathlib.Core.Path.{◌≡◌, refl, sym, ap, ◌∙◌, subst}
use mathlib.Core.Bool.{Bool, true, false, cond}
use mathlib.Core.List.{List, [], ◌∷◌, ◌++◌}
use mathlib.Core.Option.{Option, none}
use lib.ListN.{length}
use lib.Dec.{leb, eqb}
use Rattle.model.specs.Lists.{any, select}
use Rattle.model.specs.declared.Phase.TheVariants.{Down}
use Rattle.crash.proofs.Books.Tests.{clash}
use Rattle.model.specs.Card.{new_name, is_blank, is_down, is_up}
use Rattle.model.specs.Tape.{CHECKPOINT, CLOSE, CUT, Command, FORMAT, RECOVER, RETIRE, STORE, WRITE}
use Rattle.model.specs.Valid.{Order}
use Rattle.model.specs.declared.Name.{Name}
use Rattle.model.proofs.Lists.{cases}
use Rattle.model.proofs.Command.{of_cond}
use Rattle.crash.specs.Book.{Book, Entry, stage_count, empty_book, raise, begin, note, has_running, has_closed, has_committed, kept_writes, write_book, close_book, store_book, checkpoint_book, retire_book}
use Rattle.crash.specs.Service.{Service, cut_service, noted, with_noted}
use Rattle.crash.specs.Ledger.{Ledger, cut_ledger, with_book}
use Rattle.crash.proofs.Books.Rename.{Renamed, renamed, renamed_number, noted_renamed, SameWrites}
use Rattle.crash.proofs.Books.Agreement.{Agrees, not_down, down}
use Rattle.crash.proofs.Books.BookEntries.{uncommitted_name}
use Rattle.drive.specs.LostCommits.{book_without}
use Rattle.drive.specs.Since.{StoreKind, record_part, commit, master, is_master_store, lost_among}
use Rattle.drive.specs.DriveLedger.{DriveLedger, commit_next, cut_without, lossy_cut}
use Rattle.drive.specs.DriveBook.{DriveService, is_of, cut_losing, commit_made}
use Rattle.drive.proofs.Steps.Related.{up_cut, down_cut, unmastered_cut, master_cut}
use Rattle.drive.proofs.Books.SameKept.{SameKept}
use Rattle.drive.proofs.Books.Kept.{SameStores, same_other, same_commit, losing_agrees}

pub record BookUp (v : DriveService) (l : Ledger) (ns : List (Option Name)) (ks : List StoreKind) : Type 0 where
  pub shift : ℕ → ℕ
  pub up : is_up l.phase ≡ true
  pub books : Renamed shift v.service.book l.book
  pub low : (c : ℕ) → 1 ≤ v.service.book.uncommitted c
  pub saved : SameWrites v.service.saved l.saved
  pub kinds : SameStores shift ns ks

-- a card that is down: the book is empty
pub record BookDown (v : DriveService) (l : Ledger) : Type 0 where
  pub is_down : l.phase ≡ Down
  pub empty : v.service.book ≡ empty_book l.book.begun.order (λ (c : ℕ). 1)
  pub saved : SameWrites v.service.saved (kept_writes l.book ++ l.saved)

pub data BookPhase (v : DriveService) (d : DriveLedger) : Type 0 where
  book_blank : is_blank d.now.phase ≡ true → v.service.book.begun.order ≡ d.now.book.begun.order → length v.since ≡ length d.since → BookPhase v d
  book_up : BookUp v d.now v.since d.since → any is_master_store d.since ≡ false → BookPhase v d
  -- the last store was of the master: as much is kept without it
  book_master : (ns : List (Option Name)) (ks : List StoreKind) → v.since ≡ none ∷ ns → d.since ≡ master ∷ ks → BookUp v d.now ns ks
      → SameKept ks d.before d.now → BookPhase v d
  book_down : BookDown v d.now → any is_master_store d.since ≡ false → length v.since ≡ length d.since → BookPhase v d

-- ---- a cut, whatever is marked
lossy_down : (marked : ℕ → Bool) (ks : List StoreKind) (l : Ledger) → is_down (cut_without marked ks l).phase ≡ true
unfolding cut_without cut_ledger
lossy_down marked ks l = cases (is_up l.phase) (λ h. rw h refl) (λ h. rw h refl)

lossy_order : (marked : ℕ → Bool) (ks : List StoreKind) (l : Ledger) → (cut_without marked ks l).book.begun.order ≡ l.book.begun.order
unfolding cut_without cut_ledger book_without
lossy_order marked ks l = cases (is_up l.phase) (λ h. rw h refl) (λ h. rw h refl)

module _ (v : DriveService) (marked : ℕ → Bool) where
  -- the marks of the stores that were no commits do not matter
  none_first : (ns : List (Option Name)) → v.since ≡ none ∷ ns → cut_losing marked v ≡ cut_losing marked (record { service = v.service; since = ns })
  unfolding cut_losing
  none_first ns e = ap (λ (xs : List (Option Name)). cut_losing marked (record { service = v.service; since = xs })) e

  losing_now : {l : Ledger} {ns : List (Option Name)} {ks : List StoreKind} → BookUp v l ns ks
      → Agrees (cut_losing marked (record { service = v.service; since = ns })) (cut_without marked ks l)
  losing_now {l} {ns} {ks} b =
      subst (Agrees (cut_losing marked (record { service = v.service; since = ns }))) (sym (up_cut marked ks l b.up))
      (losing_agrees (record { service = v.service; since = ns }) l marked b.books b.low b.saved b.kinds)

  -- what a cut finds that is like another
  like : (s : Service) (l l' : Ledger) → is_down l.phase ≡ true → is_down l'.phase ≡ true → l'.book.begun.order ≡ l.book.begun.order
      → kept_writes l'.book ++ l'.saved ≡ kept_writes l.book ++ l.saved → Agrees s l → Agrees s l'
  like s l l' p p' o e (not_down shift n r w) = clash p n
  like s l l' p p' o e (down q b w) = down p' (b ∙ ap (λ (x : Order). empty_book x (λ (c : ℕ). 1)) (sym o)) (rw e w)

  pub book_losing : (d : DriveLedger) → is_blank d.now.phase ≡ false → BookPhase v d → Agrees (cut_losing marked v) (lossy_cut marked d)
  book_losing d h (book_blank p o long) = clash p h
  book_losing d h (book_up b n) = rw (unmastered_cut marked d n) (losing_now b)
  book_losing d h (book_master ns ks e f b same) =
      rw (none_first ns e, master_cut marked ks d f)
      (cases (marked (length ks))
      (λ h. rw h
      (like (cut_losing marked (record { service = v.service; since = ns })) (cut_without marked ks d.now) (cut_without marked ks d.before) (lossy_down marked ks d.now)
      (lossy_down marked ks d.before) (lossy_order marked ks d.before ∙ same.order ∙ sym (lossy_order marked ks d.now)) (same.writes marked) (losing_now b)))
      (λ h. rw h (losing_now b)))
  book_losing d h (book_down b n long) =
      rw (unmastered_cut marked d n ∙ down_cut marked d.since d.now (ap is_up b.is_down)) cut_again
    where
      no_writes : kept_writes (book_without (lost_among is_of marked v.since) v.service.book) ≡ []
      no_writes = ap (λ (k : Book). kept_writes (book_without (lost_among is_of marked v.since) k)) b.empty ∙ (unfold kept_writes book_without empty_book select in refl)

      same_order : (book_without (lost_among is_of marked v.since) v.service.book).begun.order ≡ d.now.book.begun.order
      same_order = unfold book_without in ap (λ (k : Book). k.begun.order) b.empty ∙ (unfold empty_book in refl)

      cut_again : Agrees (cut_losing marked v) (cut_ledger d.now)
      cut_again = unfold cut_losing cut_service cut_ledger in down refl (ap (λ (o : Order). empty_book o (λ (c : ℕ). 1)) same_order) (rw no_writes b.saved)

-- ---- the commit that a STORE makes is the same but for its number
module _ {shift : ℕ → ℕ} {k k' : Book} (r : Renamed shift k k') (c : ℕ) where
  next_renamed : new_name c (k'.uncommitted c) ≡ renamed shift (new_name c (k.uncommitted c))
  next_renamed = renamed_number shift c (k.uncommitted c) (k'.uncommitted c) (r.uncommitted c)

  entry_renamed : (length (k'.entry (new_name c (k'.uncommitted c))).blocks ≡ length (k.entry (new_name c (k.uncommitted c))).blocks)
      × (stage_count (k'.entry (new_name c (k'.uncommitted c))).stage ≡ stage_count (k.entry (new_name c (k.uncommitted c))).stage)
  entry_renamed =
      let e = ap (λ (t : Name). k'.entry t) next_renamed ∙ r.entry (new_name c (k.uncommitted c)) in
      (ap (λ (x : Entry). length x.blocks) e, ap (λ (x : Entry). stage_count x.stage) e)

-- ---- no number falls below 1
module _ (k : Book) (low : (c : ℕ) → 1 ≤ k.uncommitted c) where
  raised_low : (a c : ℕ) → 1 ≤ raise a k.uncommitted c
  unfolding raise
  raised_low a c = of_cond (λ (n : ℕ). 1 ≤ n) (eqb c a) (omega arith) (low c)

  low_noted : (n : Command) (c : ℕ) → 1 ≤ (noted n k).uncommitted c
  unfolding noted write_book note begin close_book store_book checkpoint_book retire_book
  low_noted (FORMAT a b j) c = low c
  low_noted (WRITE task a b o v) c = of_cond (λ (x : Book). 1 ≤ x.uncommitted c) (has_running k a) (low c) (low c)
  low_noted (CLOSE a) c = of_cond (λ (x : Book). 1 ≤ x.uncommitted c) (has_running k a) (low c) (low c)
  low_noted (STORE a) c =
      of_cond (λ (x : Book). 1 ≤ x.uncommitted c) (has_closed k a)
      (of_cond (λ (f : ℕ → ℕ). 1 ≤ f c)
      (leb (length (k.entry (new_name a (k.uncommitted a))).blocks + 2) (suc (stage_count (k.entry (new_name a (k.uncommitted a))).stage))) (raised_low a c) (low c))
      (low c)
  low_noted (CHECKPOINT a) c = of_cond (λ (x : Book). 1 ≤ x.uncommitted c) (has_committed k a) (low c) (low c)
  low_noted (RETIRE a) c = of_cond (λ (x : Book). 1 ≤ x.uncommitted c) (has_committed k a) (low c) (low c)
  low_noted CUT c = low c
  low_noted RECOVER c = low c

-- ---- the book notes a command
module _ {v : DriveService} {l : Ledger} {ns : List (Option Name)} {ks : List StoreKind} (b : BookUp v l ns ks) where
  pub noted_up : (k : Command) (ns₂ : List (Option Name)) (ks₂ : List StoreKind) → SameStores b.shift ns₂ ks₂ → (since : List (Option Name))
      → BookUp (record { service = with_noted k v.service; since = since }) (with_book l (noted k l.book)) ns₂ ks₂
  noted_up k ns₂ ks₂ s since =
      record { shift = b.shift; up = b.up; books = noted_renamed b.books k; low = low_noted v.service.book b.low k; saved = b.saved; kinds = s }

  pub store_kinds : (c : ℕ) → SameStores b.shift (commit_made (STORE c) v.service.book ∷ ns) (cond (commit_next c l.book) (commit (uncommitted_name c l.book)) (record_part c) ∷ ks)
  unfolding commit_made
  store_kinds c =
      let e = entry_renamed b.books c in
      let x = (v.service.book.entry (new_name c (v.service.book.uncommitted c))) in
      let same : commit_next c l.book ≡ leb (length x.blocks + 2) (suc (stage_count x.stage)) = rw (e.0, e.1) refl in
      cases (leb (length x.blocks + 2) (suc (stage_count x.stage)))
      (λ h. rw (h, same ∙ h, next_renamed b.books c) (same_commit (new_name c (v.service.book.uncommitted c)) b.kinds))
      (λ h. rw (h, same ∙ h) (same_other (record_part c) (λ t. refl) b.kinds))
