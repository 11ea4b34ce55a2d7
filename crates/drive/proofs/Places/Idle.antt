-- WRITE and CLOSE store nothing and leave the stores since the barrier where they are; at a barrier there are none.
use Prim.Native.Nat.{ℕ, ◌+◌, ◌-◌, ◌<◌}
use native.Mathlib.Omega.{arith}
use mathlib.Core.Path.{◌≡◌, refl, sym, ap, ◌∙◌}
use mathlib.Core.Logic.{inl, inr, ⊎_elim}
use mathlib.Core.Bool.{So}
use mathlib.Core.List.{List, []}
use lib.ListN.{length}
use Rattle.model.specs.Lists.{any}
use Rattle.model.specs.Bytes.{Bytes}
use Rattle.model.specs.Shape.{journal_block}
use Rattle.model.specs.Card.{new_name}
use Rattle.model.specs.declared.Name.{Name}
use Rattle.model.specs.declared.Tail.{Tail}
use Rattle.model.specs.declared.CommitLayout.TheVariants.{Numbers}
use Rattle.crash.specs.Book.{is_committed, Entry, Book}
use Rattle.crash.specs.Ledger.{Ledger, record_blocks}
use Rattle.crash.proofs.Books.BookEntries.{records_same}
use Rattle.crash.proofs.Disk.LedgerStages.{stored_unretired}
use Rattle.crash.specs.Claims.{IsBytes}
use Rattle.crash.proofs.Books.Largest.{kept_largest}
use Rattle.crash.proofs.Books.Tests.{impossible}
use Rattle.crash.proofs.Blocks.Invariant.{Inv}
use Rattle.crash.proofs.Disk.Relation.{WellFormed, contents, DiskStands}
use Rattle.drive.specs.Since.{StoreKind, commit_since, home_since, lost_since}
use Rattle.drive.specs.LostCommits.{book_without, ledger_without}
use Rattle.drive.proofs.Lost.Mixed.{CommittedKnown, known_formed, last_name}
use Rattle.drive.proofs.Behind.Barrier.{cached_barrier}
use Rattle.drive.proofs.Lost.Without.{well_formed_without}
use Rattle.drive.proofs.Behind.Frame.{without_was, Idle, replaced_book, cached_frame, contents_without}
use Rattle.drive.proofs.Places.BetweenDisks.{Place, used_in, BetweenDisks, place_kept}

module _ {l : Ledger} (f : WellFormed l) (k₂ : Book) (closes₂ : ℕ) (stamp₂ : Name → ℕ) (images₂ : Name → List Bytes) (fine₂ : WellFormed (replaced_book l k₂ closes₂ stamp₂ images₂))
    (idle : Idle l (replaced_book l k₂ closes₂ stamp₂ images₂)) {tail_at : ℕ → Tail} {ks : List StoreKind} {behind now : Bytes} {places : List ℕ} {old : Bytes}
    (z₂ : DiskStands Numbers (replaced_book l k₂ closes₂ stamp₂ images₂) now tail_at) (s : BetweenDisks l tail_at ks behind now places old) where
  abbrev l₂ : Ledger
  l₂ = replaced_book l k₂ closes₂ stamp₂ images₂

  last_is : (c : ℕ) → last_name l₂ c ≡ last_name l c
  last_is c = ap (λ (n : ℕ). new_name c (n - 1)) (idle.uncommitted c)

  behind_same : (c : ℕ) → c < l.shape.cores → contents (ledger_without (commit_since ks) l₂) c ≡ contents (ledger_without (commit_since ks) l) c
  behind_same c h = contents_without f k₂ closes₂ stamp₂ images₂ fine₂ idle z₂ s.cached c h

  kept_places : (p : ℕ) → Place l tail_at ks p → Place l₂ tail_at ks p
  kept_places =
      place_kept l l₂ tail_at ks ks refl
      (λ c h o. (
        (let e = ap length (behind_same c h) in omega arith),
        (let e = ap length (idle.holds c h) in omega arith),
        ⊎_elim (λ p. inl p) (λ p. inr (ap (commit_since ks) (last_is c) ∙ p)) o,
      ))
      (λ t m h g.
      let e = idle.entry t (ap is_committed g) in
      (h, (m, ap (λ (x : Entry). x.stage) e ∙ g, omega arith), ap (λ (x : Entry). x.blocks) e))

  used_same : (c : ℕ) → c < l.shape.cores → used_in l₂ c ≡ used_in l c
  used_same c h =
      ap (λ (n : ℕ). record_blocks k₂ c n (k₂.uncommitted c - n)) (idle.oldest c)
      ∙ ap (λ (n : ℕ). record_blocks k₂ c (l.book.oldest c) (n - l.book.oldest c)) (idle.uncommitted c)
      ∙ records_same l.book k₂ c (l.book.oldest c) (l.book.uncommitted c - l.book.oldest c)
      (λ i a b. ap (λ (e : Entry). length e.blocks) (idle.entry (new_name c i) (stored_unretired (f.ranks c h) i a (omega arith)).is_committed_lem))

  home_blocks : (t : Name) → So (home_since ks t) → (l₂.book.entry t).blocks ≡ (l.book.entry t).blocks
  home_blocks t p =
      let k : CommittedKnown (book_without (commit_since ks) l.book) = known_formed (well_formed_without f (commit_since ks) s.cached.last) in
      let c = (kept_largest (book_without (commit_since ks) l.book) k).sub t (s.cached.homing t p).1 in
      ap (λ (e : Entry). e.blocks) (idle.entry t (without_was f k₂ closes₂ stamp₂ images₂ fine₂ idle z₂ s.cached t c))

  pub between_idle : BetweenDisks l₂ tail_at ks behind now places old
  between_idle =
      record {
        cached = cached_frame f k₂ closes₂ stamp₂ images₂ fine₂ idle z₂ s.cached;
        count = s.count;
        few = s.few;
        lies = λ j h. kept_places _ (s.lies j h);
        apart = s.apart;
        size = s.size;
        bytes = s.bytes;
        images = s.images;
        same = s.same;
        commits =
            λ c h p.
            let x = s.commits c h (sym (ap (commit_since ks) (last_is c)) ∙ p) in
            record {
              index = x.index;
              within = x.within;
              place = x.place ∙ ap (λ (xs : List Bytes). journal_block l.shape c ((tail_at c).position + length xs)) (sym (behind_same c h));
              says = λ marked. ap (lost_since marked ks) (last_is c) ∙ x.says marked;
            };
        parts =
            λ c h p.
            let x = s.parts c h p in
            record {
              index = x.index;
              within = x.within;
              step = x.step;
              stored = rw (idle.counts c h) x.stored;
              place = x.place ∙ ap (λ (n : ℕ). journal_block l.shape c ((tail_at c).position + (n + x.step))) (sym (used_same c h));
            };
        homes =
            λ t p.
            let x = s.homes t p in
            let e : (l₂.book.entry t).blocks ≡ (l.book.entry t).blocks = home_blocks t p in
            record { index = x.index; within = x.within; step = x.step; took = rw e x.took; place = rw e x.place };
      }

-- ---- at a barrier
pub between_barrier : {l : Ledger} → WellFormed l → {tail_at : ℕ → Tail} {d : Bytes} → DiskStands Numbers l d tail_at → {home : ℕ → Bytes} → Inv home l → (old : Bytes) → length old ≡ 8192
    → IsBytes old → BetweenDisks l tail_at [] d d [] old
unfolding any
between_barrier f z v old size bytes =
    record {
      cached = cached_barrier f z v;
      count = refl;
      few = omega arith;
      lies = λ j h. absurd (omega arith);
      apart = λ i j a b e. absurd (omega arith);
      size = size;
      bytes = bytes;
      images = λ j h. absurd (omega arith);
      same = λ k h. refl;
      commits = λ c h p. impossible p;
      parts = λ c h p. impossible p;
      homes = λ t p. impossible p;
    }
