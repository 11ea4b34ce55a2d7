-- CHECKPOINT keeps what holds of the disk behind the barrier. A home store is of a transaction kept by what is behind the barrier, so its
-- block is held there, and recovery stores it again where the store is lost.
use Prim.Native.Nat.{ℕ, suc, ◌+◌, ◌-◌, ◌<◌}
use native.Mathlib.Omega.{arith}
use native.Mathlib.Decide.{ℕ_discrete}
use mathlib.Core.Path.{◌≡◌, refl, sym, ap, ◌∙◌, subst, fun_ext}
use mathlib.Core.Logic.{◌⊎◌, inl, inr, ◌≢◌}
use mathlib.Core.Bool.{Bool, true, false, So, ◌||◌}
use mathlib.Core.List.{List}
use lib.ListN.{length, get_or}
use lib.Dec.{eqb}
use Rattle.model.specs.Lists.{any}
use Rattle.model.specs.Bytes.{Bytes, block_at, store}
use Rattle.model.specs.Shape.{home_block, journal_block}
use Rattle.model.specs.Card.{same_name}
use Rattle.model.specs.Layout.{has_head}
use Rattle.model.specs.Journal.{journal_at}
use Rattle.model.specs.declared.Name.{Name}
use Rattle.model.specs.declared.CommitLayout.TheVariants.{Numbers}
use Rattle.model.specs.declared.Tail.{Tail}
use Rattle.model.proofs.Lists.{cases, get_or_mem}
use Rattle.model.proofs.Valid.{same_name_refl}
use Rattle.crash.specs.Book.{Stage, committed, is_closed, is_committed, is_retired, stage_count, Entry, Book, staged, kept}
use Rattle.crash.specs.Ledger.{Ledger, with_book}
use Rattle.crash.proofs.Books.Tests.{clash, in_any, block_equality, false_of}
use Rattle.crash.proofs.Books.BookEntries.{same_or_not, same_name_false, change_at, change_other, change_by, next_name, oldest_name, uncommitted_name}
use Rattle.crash.proofs.Books.Required.{required_same}
use Rattle.crash.proofs.Books.Largest.{member_of, stage_of, requires, kept_largest, kept_more}
use Rattle.crash.proofs.Blocks.Invariant.{homed, homed_by}
use Rattle.crash.proofs.Disk.Relation.{IsBlock, WellFormed, contents, DiskStands}
use Rattle.crash.proofs.Disk.LedgerStages.{closed_present, committed_rank}
use Rattle.crash.proofs.Commands.CardFrames.{low_other, low_journal}
use Rattle.crash.proofs.Disk.LedgerCheckpoint.{advanced, journal_kept, contents_kept}
use Rattle.crash.proofs.Disk.JournalPast.{not_closing, not_current}
use Rattle.drive.specs.LostCommits.{stage_without, entry_without, book_without, ledger_without}
use Rattle.drive.proofs.Lost.Without.{Last, well_formed_without, stage_retired}
use Rattle.drive.proofs.Lost.Mixed.{CommittedKnown, known_formed}
use Rattle.drive.proofs.Behind.Cached.{Cached}

pub some_now : {l : Ledger} (f : WellFormed l) (c : ℕ) → c < l.shape.cores → (m : ℕ) → stage_of l.book (oldest_name c l.book) ≡ committed m → l.book.oldest c < l.book.uncommitted c
some_now {l} f c in_range_lem m stage = (committed_rank (f.ranks c in_range_lem) (l.book.oldest c) (ap is_committed stage) (ap is_retired stage)).1

module _ {l : Ledger} (f : WellFormed l) {tail_at : ℕ → Tail} {since homes : Name → Bool} {parts : ℕ → Bool} {behind now : Bytes} (z : DiskStands Numbers l now tail_at)
    (y : Cached l tail_at since homes parts behind now) (c : ℕ) (in_range_lem : c < l.shape.cores) (m : ℕ) (stage : stage_of l.book (oldest_name c l.book) ≡ committed m)
    -- its commit and those of all it depends on are behind the barrier
    (safe_t : So (member_of (kept (book_without since l.book)) (oldest_name c l.book))) where
  abbrev t : Name
  t = oldest_name c l.book

  pub formed₀ : WellFormed (ledger_without since l)
  formed₀ = well_formed_without f since y.last

  pub known₀ : CommittedKnown (book_without since l.book)
  known₀ = known_formed formed₀

  committed₀ : So (is_committed (stage_of (book_without since l.book) t))
  committed₀ = (kept_largest (book_without since l.book) known₀).sub t safe_t

  pub not_since : since t ≡ false
  not_since =
      false_of (since t)
      (λ h. clash (ap (λ (g : Stage). is_committed (stage_without true (length (l.book.entry t).blocks) g)) (sym stage)
      ∙ ap (λ (x : Bool). is_committed (stage_without x (length (l.book.entry t).blocks) (stage_of l.book t))) (sym h) ∙ (unfold book_without in committed₀)) refl)

  abbrev bs : List ℕ
  bs = (l.book.entry t).blocks

  -- a stage of committed ones: the book behind the barrier advances as the book does
  module _ (g : Stage) (still : (n : ℕ) → stage_without false n g ≡ g) (o : ℕ → ℕ) where
    pub without_advanced : book_without since (advanced l t g o).book ≡ (advanced (ledger_without since l) t g o).book
    unfolding book_without
    without_advanced = ap
        (λ (e : Name → Entry). record { begun = l.book.begun; opened = l.book.opened; entry = e; writes = l.book.writes; oldest = o; uncommitted = (book_without since l.book).uncommitted; next = l.book.next })
        (fun_ext (λ v. same_or_not v t
        (λ e. rw (e, change_at t (staged g) l.book.entry, change_at t (staged g) (λ (t : Name). entry_without (since t) (l.book.entry t)), not_since, still (length bs)) refl)
        (λ ne. ap (entry_without (since v)) (change_other t (staged g) l.book.entry v ne) ∙ sym (change_other t (staged g) (λ (t : Name). entry_without (since t) (l.book.entry t)) v ne))))

  -- it is there behind the barrier and now, so it is neither being stored nor running
  pub some₀ : l.book.oldest c < (book_without since l.book).uncommitted c
  some₀ = (committed_rank (formed₀.ranks c in_range_lem) (l.book.oldest c) committed₀ (stage_retired since l.book t ∙ ap is_retired stage)).1

  pub not_closing₀ : (a : ℕ) → uncommitted_name a (book_without since l.book) ≢ t
  unfolding book_without
  not_closing₀ = unfold book_without in not_closing formed₀ c in_range_lem some₀

  pub not_current₀ : (a : ℕ) → next_name a (book_without since l.book) ≢ t
  unfolding book_without
  not_current₀ = unfold book_without in not_current formed₀ c in_range_lem some₀

  -- ---- a home store
  module _ (more : m < length bs) (image : Bytes) (block : IsBlock image) (fine₂ : WellFormed (advanced l t (committed (suc m)) l.book.oldest)) where
    abbrev g : Stage
    g = committed (suc m)

    abbrev l₂ : Ledger
    l₂ = advanced l t g l.book.oldest

    abbrev b : ℕ
    b = get_or bs m 0

    abbrev now₂ : Bytes
    now₂ = store now (home_block b) image

    pub low_b : b < l.shape.blocks
    low_b = (f.limits t (closed_present _ (ap is_closed stage))).blocks b (get_or_mem bs m 0 more)

    journals_stay : (a q : ℕ) → journal_at l.shape now₂ a q ≡ journal_at l.shape now a q
    journals_stay = low_journal f z (home_block b) (omega (arith, low_b)) image block

    without₂ : book_without since l₂.book ≡ (advanced (ledger_without since l) t g l.book.oldest).book
    without₂ = without_advanced g (λ n. refl) l.book.oldest

    abbrev l₀ : Ledger
    l₀ = advanced (ledger_without since l) t g l.book.oldest

    without₂_ledger : ledger_without since l₂ ≡ l₀
    without₂_ledger = ap (with_book l) without₂

    pub contents₀ : (a : ℕ) → contents (ledger_without since l₂) a ≡ contents (ledger_without since l) a
    contents₀ a =
        ap (λ (x : Ledger). contents x a) without₂_ledger
        ∙ contents_kept (ledger_without since l) t g l.book.oldest a (not_closing₀ a) (not_current₀ a) (unfold book_without in refl)

    pub contents_now : (a : ℕ) → contents l₂ a ≡ contents l a
    contents_now a = contents_kept l t g l.book.oldest a (not_closing f c in_range_lem (some_now f c in_range_lem m stage) a) (not_current f c in_range_lem (some_now f c in_range_lem m stage) a) refl

    stands₂ : DiskStands Numbers (ledger_without since l₂) behind tail_at
    stands₂ =
        subst (λ (x : Ledger). DiskStands Numbers x behind tail_at) (sym without₂_ledger)
        (record {
          size = y.stands.size;
          bytes = y.stands.bytes;
          master = y.stands.master;
          numbered = λ a h e. refl;
          journals =
              λ a h. journal_kept (ledger_without since l) t g l.book.oldest a (not_closing₀ a) (not_current₀ a) behind behind (tail_at a) (λ q. refl) (unfold book_without in refl) (y.stands.journals a h);
        })

    last₂ : Last l₂ since
    last₂ v h =
        let ne : v ≢ t = λ e. clash (subst (λ (n : Name). So (since n)) e h) not_since in
        (ap (λ (e : Entry). e.stage) (change_other t (staged g) l.book.entry v ne) ∙ (y.last v h).0, (y.last v h).1, (y.last v h).2)

    fine₅ : WellFormed (ledger_without since l₂)
    fine₅ = well_formed_without fine₂ since last₂

    known₅ : CommittedKnown (book_without since l₂.book)
    known₅ = known_formed fine₅

    -- stages differ in t's count alone
    same_test : (p : Stage → Bool) → p (committed (suc m)) ≡ p (committed m) → (v : Name) → p (stage_of (book_without since l₂.book) v) ≡ p (stage_of (book_without since l.book) v)
    same_test p e v =
        ap (λ (k : Book). p (stage_of k v)) without₂
        ∙ change_by t (staged g) (book_without since l.book).entry (λ (e : Entry). p e.stage) (e ∙ sym (ap p stage₀)) v
      where
        stage₀ : stage_of (book_without since l.book) t ≡ committed m
        stage₀ = unfold book_without in (ap (stage_without (since t) (length bs)) stage ∙ ap (λ (x : Bool). stage_without x (length bs) (committed m)) not_since)

    same_required : (v x : Name) → So (is_committed (stage_of (book_without since l.book) v)) → So (requires (book_without since l₂.book) v x) → So (requires (book_without since l.book) v x)
    same_required v x h n =
        subst (λ (ns : List Name). So (member_of ns x))
        (required_same (book_without since l.book) (book_without since l₂.book) v (unfold book_without in refl)
        (ap (λ (k : Book). (k.entry v).names) without₂ ∙ change_by t (staged g) (book_without since l.book).entry (λ (e : Entry). e.names) refl v)) n

    kept₂ : (v : Name) → So (member_of (kept (book_without since l.book)) v) → So (member_of (kept (book_without since l₂.book)) v)
    kept₂ = kept_more (book_without since l.book) (book_without since l₂.book) known₀ known₅ (λ v h. same_test is_committed refl v ∙ h) same_required

    safe₂ : (v : Name) → (So (is_retired (stage_of l₂.book v)) ⊎ ((j : ℕ) × So (homed l₂ j v))) → So (member_of (kept (book_without since l₂.book)) v)
    safe₂ v h =
        same_or_not v t
        (λ e. rw e (kept₂ t safe_t))
        (λ ne. kept₂ v (y.safe v (was v ne h)))
      where
        was : (v : Name) → v ≢ t → (So (is_retired (stage_of l₂.book v)) ⊎ ((j : ℕ) × So (homed l₂ j v))) → (So (is_retired (stage_of l.book v)) ⊎ ((j : ℕ) × So (homed l j v)))
        was v ne (inl h) = inl (sym (ap (λ (e : Entry). is_retired e.stage) (change_other t (staged g) l.book.entry v ne)) ∙ h)
        was v ne (inr (j, h)) = inr (j, sym (ap (λ (e : Entry). homed_by j e.blocks e.stage) (change_other t (staged g) l.book.entry v ne)) ∙ h)

    abbrev homes₂ : Name → Bool
    homes₂ v = same_name v t || homes v

    homing₂ : (v : Name) → So (homes₂ v) → (is_retired (stage_of l₂.book v) ≡ false) × So (member_of (kept (book_without since l₂.book)) v)
    homing₂ v h =
        same_or_not v t
        (λ e. rw e (ap (λ (x : Entry). is_retired x.stage) (change_at t (staged g) l.book.entry), kept₂ t safe_t))
        (λ ne.
        let old : So (homes v) = sym (ap (λ (x : Bool). x || homes v) (same_name_false v t ne)) ∙ h in
        (ap (λ (x : Entry). is_retired x.stage) (change_other t (staged g) l.book.entry v ne) ∙ (y.homing v old).0, kept₂ v (y.homing v old).1))

    pub blocks_now : (v : Name) → (l₂.book.entry v).blocks ≡ (l.book.entry v).blocks
    blocks_now = change_by t (staged g) l.book.entry (λ (e : Entry). e.blocks) refl

    pub more_homes : (v : Name) → So (homes v) → So (homes₂ v)
    more_homes v h = cases (same_name v t) (λ e. rw e refl) (λ e. rw e h)

    held₂ : (j : ℕ) → j < l.shape.blocks → ((v : Name) → So (homes₂ v) → any (eqb j) (l₂.book.entry v).blocks ≡ false) → block_at behind (home_block j) ≡ block_at now₂ (home_block j)
    held₂ j h n =
        elim (ℕ_discrete j b) [
          | yes e ↦ clash (in_any block_equality (get_or_mem bs m 0 more))
              (ap (λ (i : ℕ). any (eqb i) bs) (sym e) ∙ sym (ap (any (eqb j)) (blocks_now t)) ∙ n t (rw (same_name_refl t) refl))
          | no ne ↦ y.home_same j h (λ v p. sym (ap (any (eqb j)) (blocks_now v)) ∙ n v (more_homes v p))
              ∙ sym (low_other f z (home_block b) (omega (arith, low_b)) image block (home_block j) (λ q. ne (omega arith)))
        ]

    pub cached_home : Cached l₂ tail_at since homes₂ parts behind now₂
    cached_home =
        record {
          last = last₂;
          safe = safe₂;
          stands = stands₂;
          single =
              λ a q h p e.
              y.single a q h p (sym (ap (has_head 2 (l.book.uncommitted a - 1)) (journals_stay a q)) ∙ e)
              ∙ ap (λ (xs : List Bytes). journal_block l.shape a ((tail_at a).position + length xs)) (sym (contents₀ a));
          homing = homing₂;
          home_same = held₂;
          stored_behind =
              λ a h p n.
              let w = y.stored_behind a h p (subst (λ (e : Entry). 0 < stage_count e.stage) (change_other t (staged g) l.book.entry (uncommitted_name a l.book) (not_closing f c in_range_lem (some_now f c in_range_lem m stage) a)) n) in
              (w.0, rw (contents_now a) w.1);
        }
