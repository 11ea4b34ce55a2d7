-- The service book of a drive and its ledger keep the same writes through a cut, whatever is marked; and what a book keeps without lost
-- commits does not change by WRITE and CLOSE, so that a lost master store is not seen in it.
use Prim.Native.Nat.{ℕ, suc, ◌≤◌}
use mathlib.Core.Path.{◌≡◌, refl, sym, ap, ◌∙◌, subst}
use mathlib.Core.Logic.{◌≢◌}
use mathlib.Core.Bool.{Bool, false, So}
use mathlib.Core.List.{List, [], ◌∷◌}
use mathlib.Core.Option.{Option, none, some}
use lib.ListN.{length}
use Rattle.model.specs.Lists.{any, select}
use Rattle.model.specs.Card.{same_name}
use Rattle.model.specs.Valid.{Order}
use Rattle.model.specs.declared.Name.{Name}
use Rattle.model.proofs.Lists.{cases, bool_ext}
use Rattle.model.proofs.SameShrink.{select_alike}
use Rattle.crash.proofs.Books.BookEntries.{same_or_not}
use Rattle.crash.proofs.Books.BookSteps.{Restages}
use Rattle.crash.proofs.Disk.LedgerCheckpoint.{advanced, one_changed}
use Rattle.crash.specs.Book.{committed, retired, Book, Write, Entry, is_committed, empty_book, kept, kept_writes}
use Rattle.crash.specs.Service.{cut_service}
use Rattle.crash.specs.Ledger.{Ledger, cut_ledger}
use Rattle.crash.proofs.Books.Tests.{clash}
use Rattle.crash.proofs.Books.Rename.{Renamed, renamed, same_renamed, SameWrites, kept_saved}
use Rattle.crash.proofs.Books.Agreement.{Agrees, down}
use Rattle.crash.proofs.Books.Required.{required_same}
use Rattle.crash.proofs.Books.Largest.{member_of, stage_of, requires, kept_more, kept_largest}
use Rattle.crash.proofs.Disk.Relation.{WellFormed}
use Rattle.drive.specs.LostCommits.{stage_without, entry_without, book_without, ledger_without}
use Rattle.drive.specs.Since.{StoreKind, commit, is_commit_of, lost_among, lost_since}
use Rattle.drive.specs.DriveBook.{DriveService, is_of, cut_losing}
use Rattle.drive.proofs.Lost.Without.{without_commits, Last, well_formed_without}
use Rattle.drive.proofs.Lost.Mixed.{CommittedKnown, known_formed}
use Rattle.drive.proofs.Lost.Renamed.{without_renamed}
use Rattle.drive.proofs.Behind.Frame.{Idle}

-- ---- the stores since the barrier in both: as many, and the same commits but for numbers
pub data SameStores (shift : ℕ → ℕ) : List (Option Name) → List StoreKind → Type 0 where
  same_none : SameStores shift [] []
  same_other : {ns : List (Option Name)} {ks : List StoreKind} (k : StoreKind) → ((t : Name) → is_commit_of t k ≡ false) → SameStores shift ns ks → SameStores shift (none ∷ ns) (k ∷ ks)
  same_commit : {ns : List (Option Name)} {ks : List StoreKind} (t : Name) → SameStores shift ns ks → SameStores shift (some t ∷ ns) (commit (renamed shift t) ∷ ks)

pub same_long : {shift : ℕ → ℕ} {ns : List (Option Name)} {ks : List StoreKind} → SameStores shift ns ks → length ns ≡ length ks
same_long same_none = refl
same_long (same_other k e s) = ap suc (same_long s)
same_long (same_commit t s) = ap suc (same_long s)

same_lost : {shift : ℕ → ℕ} {ns : List (Option Name)} {ks : List StoreKind} (marked : ℕ → Bool) → SameStores shift ns ks → (t : Name)
    → lost_since marked ks (renamed shift t) ≡ lost_among is_of marked ns t
same_lost marked same_none t = refl
same_lost {shift} marked (same_other k e s) t = rw (e (renamed shift t)) (same_lost marked s t)
same_lost {shift} marked (same_commit u s) t = rw (same_renamed shift t u, same_long s, same_lost marked s t) refl

-- ---- a cut that loses commits keeps the same writes in both
pub losing_agrees : {shift : ℕ → ℕ} (v : DriveService) (l : Ledger) {ks : List StoreKind} (marked : ℕ → Bool) → Renamed shift v.service.book l.book
    → ((c : ℕ) → 1 ≤ v.service.book.uncommitted c) → SameWrites v.service.saved l.saved → SameStores shift v.since ks
    → Agrees (cut_losing marked v) (cut_ledger (ledger_without (lost_since marked ks) l))
unfolding cut_losing cut_service cut_ledger
losing_agrees v l {ks} marked r low s k =
    down refl (unfold book_without in ap (λ (o : Order). empty_book o (λ (c : ℕ). 1)) (sym r.begun.order))
    (kept_saved (without_renamed r low (lost_among is_of marked v.since) (lost_since marked ks) (same_lost marked k)) v.service.saved l.saved s)

-- ---- two books with the same commits that require the same keep the same writes
module _ (k k₂ : Book) (known : CommittedKnown k) (known₂ : CommittedKnown k₂) (commits : (v : Name) → is_committed (stage_of k₂ v) ≡ is_committed (stage_of k v))
    (fixed : (v u : Name) → So (is_committed (stage_of k v)) → requires k₂ v u ≡ requires k v u) where
  kept_alike : (v : Name) → member_of (kept k₂) v ≡ member_of (kept k) v
  kept_alike v =
      bool_ext
      (kept_more k₂ k known₂ known (λ x h. sym (commits x) ∙ h) (λ x u h n. fixed x u (sym (commits x) ∙ h) ∙ n) v)
      (kept_more k k₂ known known₂ (λ x h. commits x ∙ h) (λ x u h n. sym (fixed x u h) ∙ n) v)

  selected : (ws : List Write) → select (λ (w : Write). any (same_name w.writer) (kept k₂)) ws ≡ select (λ (w : Write). any (same_name w.writer) (kept k)) ws
  selected ws = select_alike (λ (w : Write). any (same_name w.writer) (kept k₂)) (λ (w : Write). any (same_name w.writer) (kept k)) ws (λ w m. kept_alike w.writer)

  writes_alike : k₂.writes ≡ k.writes → kept_writes k₂ ≡ kept_writes k
  unfolding kept_writes
  writes_alike e = ap (select (λ (w : Write). any (same_name w.writer) (kept k₂))) e ∙ selected k.writes

  -- one write more, of one that is not committed
  writes_more : (w : Write) → k₂.writes ≡ w ∷ k.writes → is_committed (stage_of k₂ w.writer) ≡ false → kept_writes k₂ ≡ kept_writes k
  unfolding kept_writes select
  writes_more w e unkept =
      let none : any (same_name w.writer) (kept k₂) ≡ false =
      cases (any (same_name w.writer) (kept k₂)) (λ h. clash ((kept_largest k₂ known₂).sub w.writer h) unkept) (λ h. h) in
      ap (select (λ (x : Write). any (same_name x.writer) (kept k₂))) e ∙ rw none (selected k.writes)

-- ---- WRITE and CLOSE: committed transactions stay, also without lost commits
module _ {l l₂ : Ledger} (f : WellFormed l) (f₂ : WellFormed l₂) (idle : Idle l l₂) (lost : Name → Bool) (last : Last l lost) (cores : l₂.shape ≡ l.shape) where
  last₂ : Last l₂ lost
  last₂ t h =
      let x = last t h in
      (ap (λ (e : Entry). e.stage) (idle.entry t (ap is_committed x.0)) ∙ x.0, x.1 ∙ sym (idle.uncommitted t.core), rw cores x.2)

  known_without : CommittedKnown (book_without lost l.book)
  known_without = known_formed (well_formed_without f lost last)

  known_without₂ : CommittedKnown (book_without lost l₂.book)
  known_without₂ = known_formed (well_formed_without f₂ lost last₂)

  was_committed : (v : Name) → So (is_committed (stage_of (book_without lost l.book) v)) → So (is_committed (stage_of l.book v))
  unfolding book_without
  was_committed v h = without_commits (lost v) (length (l.book.entry v).blocks) (stage_of l.book v) h

  is_committed_lem : (v : Name) → So (is_committed (stage_of (book_without lost l₂.book) v)) → So (is_committed (stage_of l.book v))
  unfolding book_without
  is_committed_lem v h = sym (idle.commits v) ∙ without_commits (lost v) (length (l₂.book.entry v).blocks) (stage_of l₂.book v) h

  entry_without_lem : (v : Name) → So (is_committed (stage_of l.book v)) → (book_without lost l₂.book).entry v ≡ (book_without lost l.book).entry v
  unfolding book_without
  entry_without_lem v h = ap (entry_without (lost v)) (idle.entry v h)

  commits_without : (v : Name) → is_committed (stage_of (book_without lost l₂.book) v) ≡ is_committed (stage_of (book_without lost l.book) v)
  commits_without v =
      bool_ext
      (λ h. sym (ap (λ (e : Entry). is_committed e.stage) (entry_without_lem v (is_committed_lem v h))) ∙ h)
      (λ h. ap (λ (e : Entry). is_committed e.stage) (entry_without_lem v (was_committed v h)) ∙ h)

  begun_without : (book_without lost l₂.book).begun ≡ (book_without lost l.book).begun
  unfolding book_without
  begun_without = idle.begun

  fixed_without : (v u : Name) → So (is_committed (stage_of (book_without lost l.book) v)) → requires (book_without lost l₂.book) v u ≡ requires (book_without lost l.book) v u
  fixed_without v u h =
      ap (λ (ns : List Name). member_of ns u)
      (required_same (book_without lost l.book) (book_without lost l₂.book) v begun_without (ap (λ (e : Entry). e.names) (entry_without_lem v (was_committed v h))))

  -- CLOSE
  pub idle_writes : l₂.book.writes ≡ l.book.writes → kept_writes (book_without lost l₂.book) ≡ kept_writes (book_without lost l.book)
  idle_writes e = writes_alike (book_without lost l.book) (book_without lost l₂.book) known_without known_without₂ commits_without fixed_without (unfold book_without in e)

  -- WRITE
  pub written_writes : (w : Write) → l₂.book.writes ≡ w ∷ l.book.writes → is_committed (stage_of l.book w.writer) ≡ false
      → kept_writes (book_without lost l₂.book) ≡ kept_writes (book_without lost l.book)
  written_writes w e unkept =
      writes_more (book_without lost l.book) (book_without lost l₂.book) known_without known_without₂ commits_without fixed_without w (unfold book_without in e)
      (cases (is_committed (stage_of (book_without lost l₂.book) w.writer)) (λ h. clash (is_committed_lem w.writer h) unkept) (λ h. h))

-- ---- a master store: what is retired stays committed
module _ {l : Ledger} (f : WellFormed l) (t : Name) (m : ℕ) (stage : stage_of l.book t ≡ committed m) (o : ℕ → ℕ) (f₃ : WellFormed (advanced l t retired o))
    (lost : Name → Bool) (last : Last l lost) (behind : lost t ≡ false) where
  abbrev l₃ : Ledger
  l₃ = advanced l t retired o

  changed : Restages l.book l₃.book t retired
  changed = one_changed l t retired o

  last₃ : Last l₃ lost
  last₃ v h =
      let x = last v h in
      let ne : v ≢ t = λ e. clash (subst (λ (n : Name). So (lost n)) e h) behind in
      (ap (λ (e : Entry). e.stage) (changed.other v ne) ∙ x.0, x.1, x.2)

  known_was : CommittedKnown (book_without lost l.book)
  known_was = known_formed (well_formed_without f lost last)

  known_is : CommittedKnown (book_without lost l₃.book)
  known_is = known_formed (well_formed_without f₃ lost last₃)

  commits_retired : (v : Name) → is_committed (stage_of (book_without lost l₃.book) v) ≡ is_committed (stage_of (book_without lost l.book) v)
  unfolding book_without
  commits_retired v =
      same_or_not v t
      (λ e. rw (e, changed.stage, stage, behind) refl)
      (λ ne. ap (λ (x : Entry). is_committed (stage_without (lost v) (length x.blocks) x.stage)) (changed.other v ne))

  fixed_retired : (v u : Name) → So (is_committed (stage_of (book_without lost l.book) v)) → requires (book_without lost l₃.book) v u ≡ requires (book_without lost l.book) v u
  fixed_retired v u h = ap (λ (ns : List Name). member_of ns u) (required_same (book_without lost l.book) (book_without lost l₃.book) v (unfold book_without in refl) (unfold book_without in changed.names v))

  pub retired_writes : kept_writes (book_without lost l₃.book) ≡ kept_writes (book_without lost l.book)
  retired_writes = writes_alike (book_without lost l.book) (book_without lost l₃.book) known_was known_is commits_retired fixed_retired (unfold book_without in refl)
