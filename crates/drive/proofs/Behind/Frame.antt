-- A command that stores nothing, WRITE or CLOSE, keeps what holds of the disk behind the barrier: of committed transactions
-- it changes nothing, and of others nothing is kept.
use Prim.Native.Nat.{ℕ, ◌+◌, ◌-◌, ◌≤◌, ◌<◌}
use native.Mathlib.Omega.{arith}
use mathlib.Core.Path.{◌≡◌, refl, sym, ap, ◌∙◌, subst}
use mathlib.Core.Logic.{◌⊎◌, inl, inr}
use mathlib.Core.Bool.{Bool, true, So}
use mathlib.Core.List.{List, ◌++◌}
use lib.ListN.{length}
use lib.Dec.{eqb}
use Rattle.model.specs.Lists.{any}
use Rattle.model.specs.Bytes.{Bytes}
use Rattle.model.specs.Shape.{journal_block}
use Rattle.model.specs.Card.{new_name}
use Rattle.model.specs.Layout.{has_head}
use Rattle.model.specs.Journal.{journal_at}
use Rattle.model.specs.declared.Name.{Name}
use Rattle.model.specs.declared.CommitLayout.TheVariants.{Numbers}
use Rattle.model.specs.declared.Tail.{Tail}
use Rattle.model.proofs.Lists.{cases, flat_map_below}
use Rattle.crash.specs.Book.{is_committed, is_retired, stage_count, Entry, Book}
use Rattle.crash.specs.Ledger.{Ledger, record_blocks, record_of}
use Rattle.crash.proofs.Books.BookEntries.{next_name, uncommitted_name}
use Rattle.crash.proofs.Books.Required.{required_same}
use Rattle.crash.proofs.Books.Largest.{member_of, stage_of, requires, kept_largest, kept_more}
use Rattle.crash.proofs.Blocks.Invariant.{homed}
use Rattle.crash.proofs.Disk.Relation.{WellFormed, contents, JournalStands, DiskStands}
use Rattle.drive.specs.LostCommits.{entry_without, book_without, ledger_without}
use Rattle.drive.proofs.Lost.Without.{without_commits, without_records, Last, well_formed_without, without_running}
use Rattle.drive.proofs.Lost.Mixed.{CommittedKnown, known_formed, last_name, whole, uncommitted_part, contents_unlost, contents_lost}
use Rattle.drive.proofs.Behind.Cached.{Cached}
use Rattle.crash.proofs.Disk.LedgerStages.{stored_unretired}

-- the ledger with other transactions
abbrev pub replaced_book : Ledger → Book → ℕ → (Name → ℕ) → (Name → List Bytes) → Ledger
replaced_book l k closes stamp images =
    record { shape = l.shape; saved = l.saved; book = k; closes = closes; stamp = stamp; images = images; phase = l.phase; left = l.left }

-- committed transactions stay, and none commits or retires
pub record Idle (l l₂ : Ledger) : Type 0 where
  pub begun : l₂.book.begun ≡ l.book.begun
  pub oldest : (c : ℕ) → l₂.book.oldest c ≡ l.book.oldest c
  pub uncommitted : (c : ℕ) → l₂.book.uncommitted c ≡ l.book.uncommitted c
  pub commits : (t : Name) → is_committed (stage_of l₂.book t) ≡ is_committed (stage_of l.book t)
  pub entry : (t : Name) → is_committed (stage_of l.book t) ≡ true → l₂.book.entry t ≡ l.book.entry t
  pub records : (t : Name) → is_committed (stage_of l.book t) ≡ true → record_of l₂ t ≡ record_of l t
  pub retires : (t : Name) → is_retired (stage_of l₂.book t) ≡ is_retired (stage_of l.book t)
  pub homes : (b : ℕ) (t : Name) → So (homed l₂ b t) → So (homed l b t)
  pub holds : (c : ℕ) → c < l.shape.cores → contents l₂ c ≡ contents l c
  pub counts : (c : ℕ) → c < l.shape.cores → stage_count (stage_of l₂.book (uncommitted_name c l₂.book)) ≡ stage_count (stage_of l.book (uncommitted_name c l.book))

module _ {l : Ledger} (f : WellFormed l) (k₂ : Book) (closes₂ : ℕ) (stamp₂ : Name → ℕ) (images₂ : Name → List Bytes) (fine₂ : WellFormed (replaced_book l k₂ closes₂ stamp₂ images₂))
    (idle : Idle l (replaced_book l k₂ closes₂ stamp₂ images₂)) {tail_at : ℕ → Tail} {since homes : Name → Bool} {parts : ℕ → Bool} {behind now : Bytes}
    (z₂ : DiskStands Numbers (replaced_book l k₂ closes₂ stamp₂ images₂) now tail_at) (y : Cached l tail_at since homes parts behind now) where
  abbrev l₂ : Ledger
  l₂ = replaced_book l k₂ closes₂ stamp₂ images₂

  last₂ : Last l₂ since
  last₂ t h =
      let x = y.last t h in
      (ap (λ (e : Entry). e.stage) (idle.entry t (ap is_committed x.0)) ∙ x.0, x.1 ∙ sym (idle.uncommitted t.core), x.2)

  formed₀ : WellFormed (ledger_without since l)
  formed₀ = well_formed_without f since y.last

  fine₅ : WellFormed (ledger_without since l₂)
  fine₅ = well_formed_without fine₂ since last₂

  known₀ : CommittedKnown (book_without since l.book)
  known₀ = known_formed formed₀

  known₅ : CommittedKnown (book_without since k₂)
  known₅ = known_formed fine₅

  pub without_was : (v : Name) → So (is_committed (stage_of (book_without since l.book) v)) → So (is_committed (stage_of l.book v))
  unfolding book_without
  without_was v h = without_commits (since v) (length (l.book.entry v).blocks) (stage_of l.book v) h

  without_entry : (v : Name) → So (is_committed (stage_of (book_without since l.book) v)) → (book_without since k₂).entry v ≡ (book_without since l.book).entry v
  unfolding book_without
  without_entry v h = ap (entry_without (since v)) (idle.entry v (without_was v h))

  more : (v : Name) → So (is_committed (stage_of (book_without since l.book) v)) → So (is_committed (stage_of (book_without since k₂) v))
  more v h = ap (λ (e : Entry). is_committed e.stage) (without_entry v h) ∙ h

  without_begun : (book_without since k₂).begun ≡ (book_without since l.book).begun
  unfolding book_without
  without_begun = idle.begun

  same_required : (v x : Name) → So (is_committed (stage_of (book_without since l.book) v)) → So (requires (book_without since k₂) v x) → So (requires (book_without since l.book) v x)
  same_required v x h n =
      subst (λ (ns : List Name). So (member_of ns x)) (required_same (book_without since l.book) (book_without since k₂) v without_begun (ap (λ (e : Entry). e.names) (without_entry v h))) n

  -- ---- what the journals hold behind the barrier
  module _ (c : ℕ) (in_range_lem : c < l.shape.cores) where
    stored_commits : (i : ℕ) → l.book.oldest c ≤ i → i < l.book.uncommitted c → is_committed (stage_of l.book (new_name c i)) ≡ true
    stored_commits i a b = (stored_unretired (f.ranks c in_range_lem) i a b).is_committed_lem

    whole_same : (n : ℕ) → n ≤ l.book.uncommitted c - l.book.oldest c → whole l₂ c n ≡ whole l c n
    whole_same n h =
        rw (idle.oldest c)
        (flat_map_below (λ (i : ℕ). record_of l₂ (new_name c (l.book.oldest c + i))) (λ (i : ℕ). record_of l (new_name c (l.book.oldest c + i))) n
        (λ i g. idle.records (new_name c (l.book.oldest c + i)) (stored_commits (l.book.oldest c + i) (omega arith) (omega arith))))

    pub last_same : last_name l₂ c ≡ last_name l c
    last_same = ap (λ (n : ℕ). new_name c (n - 1)) (idle.uncommitted c)

    pub contents_without : contents (ledger_without since l₂) c ≡ contents (ledger_without since l) c
    contents_without =
        let o = idle.oldest c in
        let u = idle.uncommitted c in
        cases (since (last_name l c))
        (λ p.
        let s = (y.last (last_name l c) p).0 in
        let p₂ : since (last_name l₂ c) ≡ true = ap since last_same ∙ p in
        contents_lost fine₂ c in_range_lem since (last₂ (last_name l₂ c) p₂).0 p₂
        ∙ rw (u, o, idle.entry (last_name l c) (ap is_committed s), idle.records (last_name l c) (ap is_committed s))
        (ap (λ (xs : List Bytes). xs ++ uncommitted_part l c) (rw o at (whole_same (l.book.uncommitted c - 1 - l.book.oldest c) (omega arith))))
        ∙ sym (contents_lost f c in_range_lem since s p))
        (λ p.
        contents_unlost fine₂ c in_range_lem since (ap since last_same ∙ p)
        ∙ ap (λ (n : ℕ). whole l₂ c (n - l₂.book.oldest c)) u ∙ ap (λ (n : ℕ). whole l₂ c (l.book.uncommitted c - n)) o
        ∙ whole_same (l.book.uncommitted c - l.book.oldest c) (omega arith)
        ∙ sym (contents_unlost f c in_range_lem since p))

    -- room and reserve are those of the ledger
    uncommitted_without : (book_without since k₂).uncommitted c ≡ (book_without since l.book).uncommitted c
    unfolding book_without
    uncommitted_without = rw (idle.uncommitted c) refl

    journal_frame : JournalStands (ledger_without since l₂) behind c (tail_at c)
    unfolding book_without
    journal_frame =
        let j = y.stands.journals c in_range_lem in
        let j₂ = z₂.journals c in_range_lem in
        let t = next_name c k₂ in
        let total : record_blocks (book_without since k₂) c (k₂.oldest c) (k₂.next c - k₂.oldest c) ≡ record_blocks k₂ c (k₂.oldest c) (k₂.next c - k₂.oldest c)
        = without_records since k₂ c (k₂.oldest c) (k₂.next c - k₂.oldest c) in
        record {
          number = j₂.number;
          position = j₂.position;
          stands = rw contents_without j.stands;
          clear = λ i q h. j.clear i q (rw uncommitted_without at h);
          room = rw total j₂.room;
          reserved = λ h. rw total (j₂.reserved (sym (without_running (since t) (length (k₂.entry t).blocks) (stage_of k₂ t)) ∙ h));
        }

  was : (v : Name) → (So (is_retired (stage_of k₂ v)) ⊎ ((j : ℕ) × So (homed l₂ j v))) → (So (is_retired (stage_of l.book v)) ⊎ ((j : ℕ) × So (homed l j v)))
  was v (inl h) = inl (sym (idle.retires v) ∙ h)
  was v (inr (j, h)) = inr (j, idle.homes j v h)

  pub cached_frame : Cached l₂ tail_at since homes parts behind now
  cached_frame =
      record {
        last = last₂;
        safe = λ v h. kept_more (book_without since l.book) (book_without since k₂) known₀ known₅ more same_required v (y.safe v (was v h));
        stands = record { size = y.stands.size; bytes = y.stands.bytes; master = y.stands.master; numbered = λ c h g. refl; journals = journal_frame };
        single =
            λ a q h p e.
            let p₂ : So (since (last_name l a)) = sym (ap since (last_same a h)) ∙ p in
            y.single a q h p₂ (ap (λ (n : ℕ). has_head 2 (n - 1) (journal_at l.shape now a q)) (sym (idle.uncommitted a)) ∙ e)
            ∙ ap (λ (xs : List Bytes). journal_block l.shape a ((tail_at a).position + length xs)) (sym (contents_without a h));
        homing = λ v h. (idle.retires v ∙ (y.homing v h).0, kept_more (book_without since l.book) (book_without since k₂) known₀ known₅ more same_required v (y.homing v h).1);
        home_same = λ j h n. y.home_same j h (λ v p. sym (ap (λ (e : Entry). any (eqb j) e.blocks) (idle.entry v (without_was v ((kept_largest (book_without since l.book) known₀).sub v (y.homing v p).1)))) ∙ n v p);
        stored_behind =
            λ a h p n.
            let w = y.stored_behind a h p (rw (idle.counts a h) at n) in
            (ap since (last_same a h) ∙ w.0, rw (idle.holds a h) w.1);
      }
