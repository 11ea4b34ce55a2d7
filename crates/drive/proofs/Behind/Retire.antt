-- RETIRE keeps what holds of the disk behind the barrier, with the same master there: the case in which the master store is not lost. It
-- moves the tail past a transaction that is kept by what is behind the barrier, and none of whose home stores is since then.
use Prim.Native.Nat.{ℕ, ◌+◌, ◌-◌, ◌%◌, ◌<◌}
use native.Mathlib.Omega.{arith}
use native.Mathlib.Decide.{ℕ_discrete}
use mathlib.Core.Path.{◌≡◌, refl, sym, ap, ◌∙◌, subst}
use mathlib.Core.Logic.{◌⊎◌, inl, inr, ◌≢◌}
use mathlib.Core.Bool.{Bool, false, So}
use mathlib.Core.List.{List, []}
use lib.ListN.{length, get_or}
use lib.Dec.{eqb}
use Rattle.model.specs.Lists.{any}
use Rattle.model.specs.Bytes.{Bytes, store}
use Rattle.model.specs.Shape.{home_block, journal_block}
use Rattle.model.specs.Layout.{master_block, has_head}
use Rattle.model.specs.Journal.{journal_at}
use Rattle.model.specs.declared.Name.{Name}
use Rattle.model.specs.declared.CommitLayout.TheVariants.{Numbers}
use Rattle.model.specs.declared.Tail.{Tail}
use Rattle.model.proofs.Journal.{journal_wrap}
use Rattle.crash.specs.Book.{committed, retired, is_committed, is_retired, stage_count, Entry, Book, raise, staged, kept}
use Rattle.crash.specs.Ledger.{Ledger, with_book}
use Rattle.crash.proofs.Books.Tests.{clash}
use Rattle.crash.proofs.Books.BookEntries.{same_or_not, change_at, change_other, change_by, raise_other, oldest_name, uncommitted_name}
use Rattle.crash.proofs.Books.Required.{required_same}
use Rattle.crash.proofs.Books.Largest.{member_of, stage_of, requires, kept_more}
use Rattle.crash.proofs.Blocks.Invariant.{homed, homed_by}
use Rattle.crash.proofs.Disk.Relation.{IsBlock, WellFormed, contents, JournalStands, DiskStands}
use Rattle.crash.proofs.Disk.ReadMaster.{master_block_lem}
use Rattle.crash.proofs.Commands.CardFrames.{low_stored, low_other, low_journal, low_size, low_bytes}
use Rattle.crash.proofs.Disk.LedgerCheckpoint.{advanced, contents_kept, journal_kept}
use Rattle.crash.proofs.Disk.JournalPast.{not_closing, not_current, first_size, past_first, past_tail, length_past, stands_past, journal_past}
use Rattle.drive.specs.LostCommits.{book_without, ledger_without}
use Rattle.drive.proofs.Lost.Without.{Last, well_formed_without}
use Rattle.drive.proofs.Lost.Mixed.{CommittedKnown, known_formed, last_name, commit_place}
use Rattle.drive.proofs.Behind.Cached.{Cached}
use Rattle.drive.proofs.Behind.Home.{formed₀, known₀, not_since, without_advanced, some_now, some₀, not_closing₀, not_current₀}

-- ---- any ledger in order: the block behind its journal's last one stays, as the tail moves past the first record
place_past : {l : Ledger} (f : WellFormed l) (c : ℕ) (in_range_lem : c < l.shape.cores) (some : l.book.oldest c < l.book.uncommitted c) (p : ℕ)
    → journal_block l.shape c ((p + first_size c l) % l.shape.journal + length (contents (past_first c l) c)) ≡ journal_block l.shape c (p + length (contents l c))
place_past {l} f c in_range_lem some p =
    let e : p + first_size c l + length (contents (past_first c l) c) ≡ p + length (contents l c) = omega (arith, length_past f c in_range_lem some) in
    journal_wrap l.shape c (p + first_size c l) (length (contents (past_first c l) c)) ∙ ap (journal_block l.shape c) e

-- ---- the master store
module _ {l : Ledger} (f : WellFormed l) {tail_at : ℕ → Tail} {since homes : Name → Bool} {parts : ℕ → Bool} {behind now : Bytes} (z : DiskStands Numbers l now tail_at)
    (y : Cached l tail_at since homes parts behind now) (c : ℕ) (in_range_lem : c < l.shape.cores) (m : ℕ) (stage : stage_of l.book (oldest_name c l.book) ≡ committed m)
    (safe_t : So (member_of (kept (book_without since l.book)) (oldest_name c l.book)))
    -- none of its home stores is since the barrier
    (at_home : homes (oldest_name c l.book) ≡ false)
    (fine₂ : WellFormed (advanced l (oldest_name c l.book) retired (raise c l.book.oldest))) where
  abbrev t : Name
  t = oldest_name c l.book

  abbrev o₂ : ℕ → ℕ
  o₂ = raise c l.book.oldest

  abbrev l₃ : Ledger
  l₃ = advanced l t retired o₂

  abbrev l₀ : Ledger
  l₀ = ledger_without since l

  -- facts of the transaction behind the barrier
  abbrev fine_l₀ : WellFormed l₀
  fine_l₀ = formed₀ f z y c in_range_lem m stage safe_t

  some : l.book.oldest c < l.book.uncommitted c
  some = some_now f c in_range_lem m stage

  some_behind : (book_without since l.book).oldest c < (book_without since l.book).uncommitted c
  some_behind = (let r = some₀ f z y c in_range_lem m stage safe_t in unfold book_without in r)

  without₃ : book_without since l₃.book ≡ (advanced l₀ t retired o₂).book
  without₃ = without_advanced f z y c in_range_lem m stage safe_t retired (λ n. refl) o₂

  without₃_ledger : ledger_without since l₃ ≡ advanced l₀ t retired o₂
  without₃_ledger = ap (with_book l) without₃

  -- the journals behind the barrier: the core's own is past the record
  own₀ : (d₂ : Bytes) → ((q : ℕ) → journal_at l.shape d₂ c q ≡ journal_at l.shape behind c q)
      → JournalStands (advanced l₀ t retired o₂) d₂ c (past_tail c l (tail_at c))
  unfolding book_without
  own₀ d₂ at =
      journal_past fine_l₀ c in_range_lem some_behind behind d₂ (tail_at c) at (y.stands.journals c in_range_lem)

  other₀ : (d₂ : Bytes) (a : ℕ) → a < l.shape.cores → a ≢ c → ((q : ℕ) → journal_at l.shape d₂ a q ≡ journal_at l.shape behind a q)
      → JournalStands (advanced l₀ t retired o₂) d₂ a (tail_at a)
  unfolding book_without
  other₀ d₂ a h ne at =
      journal_kept l₀ t retired o₂ a (not_closing₀ f z y c in_range_lem m stage safe_t a) (not_current₀ f z y c in_range_lem m stage safe_t a) behind d₂ (tail_at a) at (raise_other c l.book.oldest a ne) (y.stands.journals a h)

  -- where a commit since the barrier stands stays
  place_own : journal_block l.shape c (((tail_at c).position + first_size c l) % l.shape.journal + length (contents (advanced l₀ t retired o₂) c))
      ≡ journal_block l.shape c ((tail_at c).position + length (contents l₀ c))
  unfolding book_without
  place_own = place_past fine_l₀ c in_range_lem some_behind (tail_at c).position

  contents_other₀ : (a : ℕ) → a ≢ c → contents (advanced l₀ t retired o₂) a ≡ contents l₀ a
  unfolding book_without
  contents_other₀ a ne = contents_kept l₀ t retired o₂ a (not_closing₀ f z y c in_range_lem m stage safe_t a) (not_current₀ f z y c in_range_lem m stage safe_t a) (raise_other c l.book.oldest a ne)

  -- lengths, behind the barrier and now
  pub past_behind : length (contents (ledger_without since l) c) ≡ length (l.book.entry t).blocks + 2 + length (contents (ledger_without since l₃) c)
  past_behind =
      let e : length (contents (ledger_without since l₃) c) ≡ length (contents (advanced l₀ t retired o₂) c) = ap (λ (x : Ledger). length (contents x c)) without₃_ledger in
      rw e long₀
    where
      long₀ : length (contents l₀ c) ≡ length (l.book.entry t).blocks + 2 + length (contents (advanced l₀ t retired o₂) c)
      long₀ = unfold book_without in length_past fine_l₀ c in_range_lem some_behind

  pub past_now : length (contents l c) ≡ length (l.book.entry t).blocks + 2 + length (contents l₃ c)
  past_now = length_past f c in_range_lem some

  pub other_behind : (a : ℕ) → a ≢ c → contents (ledger_without since l₃) a ≡ contents (ledger_without since l) a
  other_behind a ne = ap (λ (x : Ledger). contents x a) without₃_ledger ∙ contents_other₀ a ne

  pub other_now : (a : ℕ) → a ≢ c → contents l₃ a ≡ contents l a
  other_now a ne = contents_kept l t retired o₂ a (not_closing f c in_range_lem some a) (not_current f c in_range_lem some a) (raise_other c l.book.oldest a ne)

  last₃ : Last l₃ since
  last₃ v h =
      let ne : v ≢ t = λ e. clash (subst (λ (n : Name). So (since n)) e h) (not_since f z y c in_range_lem m stage safe_t) in
      (ap (λ (e : Entry). e.stage) (change_other t (staged retired) l.book.entry v ne) ∙ (y.last v h).0, (y.last v h).1, (y.last v h).2)

  fine₅ : WellFormed (ledger_without since l₃)
  fine₅ = well_formed_without fine₂ since last₃

  known₅ : CommittedKnown (book_without since l₃.book)
  known₅ = known_formed fine₅

  more : (v : Name) → So (is_committed (stage_of (book_without since l.book) v)) → So (is_committed (stage_of (book_without since l₃.book) v))
  more v h =
      ap (λ (k : Book). is_committed (stage_of k v)) without₃
      ∙ same_or_not v t
      (λ e. ap (λ (n : Name). is_committed (stage_of (advanced l₀ t retired o₂).book n)) e ∙ ap (λ (x : Entry). is_committed x.stage) (change_at t (staged retired) (book_without since l.book).entry))
      (λ ne. ap (λ (x : Entry). is_committed x.stage) (change_other t (staged retired) (book_without since l.book).entry v ne) ∙ h)

  same_required : (v x : Name) → So (is_committed (stage_of (book_without since l.book) v)) → So (requires (book_without since l₃.book) v x) → So (requires (book_without since l.book) v x)
  same_required v x h n =
      subst (λ (ns : List Name). So (member_of ns x))
      (required_same (book_without since l.book) (book_without since l₃.book) v (unfold book_without in refl)
      (ap (λ (k : Book). (k.entry v).names) without₃ ∙ change_by t (staged retired) (book_without since l.book).entry (λ (e : Entry). e.names) refl v)) n

  kept₃ : (v : Name) → So (member_of (kept (book_without since l.book)) v) → So (member_of (kept (book_without since l₃.book)) v)
  kept₃ = kept_more (book_without since l.book) (book_without since l₃.book) (known₀ f z y c in_range_lem m stage safe_t) known₅ more same_required

  safe₃ : (v : Name) → (So (is_retired (stage_of l₃.book v)) ⊎ ((j : ℕ) × So (homed l₃ j v))) → So (member_of (kept (book_without since l₃.book)) v)
  safe₃ v h = same_or_not v t (λ e. rw e (kept₃ t safe_t)) (λ ne. kept₃ v (y.safe v (was v ne h)))
    where
      was : (v : Name) → v ≢ t → (So (is_retired (stage_of l₃.book v)) ⊎ ((j : ℕ) × So (homed l₃ j v))) → (So (is_retired (stage_of l.book v)) ⊎ ((j : ℕ) × So (homed l j v)))
      was v ne (inl h) = inl (sym (ap (λ (e : Entry). is_retired e.stage) (change_other t (staged retired) l.book.entry v ne)) ∙ h)
      was v ne (inr (j, h)) = inr (j, sym (ap (λ (e : Entry). homed_by j e.blocks e.stage) (change_other t (staged retired) l.book.entry v ne)) ∙ h)

  blocks_now : (v : Name) → (l₃.book.entry v).blocks ≡ (l.book.entry v).blocks
  blocks_now = change_by t (staged retired) l.book.entry (λ (e : Entry). e.blocks) refl

  -- the new tails, and the master that has them
  module _ (tail₂ : ℕ → Tail) (own_tail : tail₂ c ≡ past_tail c l (tail_at c))
      (other_tail : (a : ℕ) → a ≢ c → tail₂ a ≡ tail_at a) where
    abbrev block : Bytes
    block = master_block Numbers l.shape tail₂

    pub is_block : IsBlock block
    is_block = master_block_lem Numbers f.range tail₂

    abbrev behind₃ : Bytes
    behind₃ = store behind 0 block

    abbrev now₃ : Bytes
    now₃ = store now 0 block

    behind_journals : (a q : ℕ) → journal_at l.shape behind₃ a q ≡ journal_at l.shape behind a q
    behind_journals a q = low_journal fine_l₀ y.stands 0 (omega arith) block is_block a q

    now_journals : (a q : ℕ) → journal_at l.shape now₃ a q ≡ journal_at l.shape now a q
    now_journals a q = low_journal f z 0 (omega arith) block is_block a q

    stands₃ : DiskStands Numbers (ledger_without since l₃) behind₃ tail₂
    stands₃ =
        subst (λ (x : Ledger). DiskStands Numbers x behind₃ tail₂) (sym without₃_ledger)
        (record {
          size = low_size fine_l₀ y.stands 0 (omega arith) block is_block;
          bytes = low_bytes fine_l₀ y.stands 0 (omega arith) block is_block;
          master = low_stored fine_l₀ y.stands 0 (omega arith) block is_block;
          numbered = λ a h e. refl;
          journals =
              λ a h.
              elim (ℕ_discrete a c) [
                | yes e ↦ subst (λ (i : ℕ). JournalStands (advanced l₀ t retired o₂) behind₃ i (tail₂ i)) (sym e)
                    (subst (λ (x : Tail). JournalStands (advanced l₀ t retired o₂) behind₃ c x) (sym own_tail) (own₀ behind₃ (behind_journals c)))
                | no ne ↦ subst (λ (x : Tail). JournalStands (advanced l₀ t retired o₂) behind₃ a x) (sym (other_tail a ne)) (other₀ behind₃ a h ne (behind_journals a))
              ];
        })

    pub place₃ : (a : ℕ) → commit_place l tail_at since a ≡ commit_place l₃ tail₂ since a
    place₃ a =
        elim (ℕ_discrete a c) [
          | yes e ↦ subst (λ (i : ℕ). commit_place l tail_at since i ≡ commit_place l₃ tail₂ since i) (sym e)
              (sym place_own
              ∙ ap (λ (x : Tail). journal_block l.shape c (x.position + length (contents (advanced l₀ t retired o₂) c))) (sym own_tail)
              ∙ ap (λ (x : Ledger). journal_block l.shape c ((tail₂ c).position + length (contents x c))) (sym without₃_ledger))
          | no ne ↦ ap (λ (xs : List Bytes). journal_block l.shape a ((tail_at a).position + length xs)) (sym (contents_other₀ a ne))
              ∙ ap (λ (x : Tail). journal_block l.shape a (x.position + length (contents (advanced l₀ t retired o₂) a))) (sym (other_tail a ne))
              ∙ ap (λ (x : Ledger). journal_block l.shape a ((tail₂ a).position + length (contents x a))) (sym without₃_ledger)
        ]

    whole₃ : (a : ℕ) → a < l.shape.cores → parts a ≡ false → 0 < stage_count (stage_of l₃.book (uncommitted_name a l₃.book))
        → (since (last_name l₃ a) ≡ false) × ((q : ℕ) → q < length (contents l₃ a) → journal_at l.shape behind₃ a ((tail₂ a).position + q) ≡ get_or (contents l₃ a) q [])
    whole₃ a h p n =
        let w = y.stored_behind a h p (subst (λ (e : Entry). 0 < stage_count e.stage) (change_other t (staged retired) l.book.entry (uncommitted_name a l.book) (not_closing f c in_range_lem some a)) n) in (
          w.0,
          elim (ℕ_discrete a c) [
            | yes e ↦ subst (λ (i : ℕ). (q : ℕ) → q < length (contents l₃ i) → journal_at l.shape behind₃ i ((tail₂ i).position + q) ≡ get_or (contents l₃ i) q []) (sym e)
                (λ q g.
                behind_journals c _
                ∙ ap (λ (x : Tail). journal_at l.shape behind c (x.position + q)) own_tail
                ∙ stands_past f c in_range_lem some behind (tail_at c).position
                (subst (λ (i : ℕ). (q : ℕ) → q < length (contents l i) → journal_at l.shape behind i ((tail_at i).position + q) ≡ get_or (contents l i) q []) e w.1) q g)
            | no ne ↦ (λ q g.
                let same : contents l₃ a ≡ contents l a = contents_kept l t retired o₂ a (not_closing f c in_range_lem some a) (not_current f c in_range_lem some a) (raise_other c l.book.oldest a ne) in
                behind_journals a _
                ∙ ap (λ (x : Tail). journal_at l.shape behind a (x.position + q)) (other_tail a ne)
                ∙ w.1 q (subst (λ (xs : List Bytes). q < length xs) same g)
                ∙ ap (λ (xs : List Bytes). get_or xs q []) (sym same))
          ],
        )

    pub cached_retire : Cached l₃ tail₂ since homes parts behind₃ now₃
    cached_retire =
        record {
          last = last₃;
          safe = safe₃;
          stands = stands₃;
          single = λ a q h p e. y.single a q h p (sym (ap (has_head 2 (l.book.uncommitted a - 1)) (now_journals a q)) ∙ e) ∙ place₃ a;
          homing =
              λ v h.
              let ne : v ≢ t = λ e. clash (subst (λ (n : Name). So (homes n)) e h) at_home in
              (ap (λ (e : Entry). is_retired e.stage) (change_other t (staged retired) l.book.entry v ne) ∙ (y.homing v h).0, kept₃ v (y.homing v h).1);
          home_same =
              λ j h n.
              low_other fine_l₀ y.stands 0 (omega arith) block is_block (home_block j) (λ q. omega arith)
              ∙ y.home_same j h (λ v p. sym (ap (any (eqb j)) (blocks_now v)) ∙ n v p)
              ∙ sym (low_other f z 0 (omega arith) block is_block (home_block j) (λ q. omega arith));
          stored_behind = whole₃;
        }
