-- At a barrier nothing is since it: the disk behind it is the disk as it is. So it is after FORMAT and a cut too, and after a
-- coming up but for the master store, which both disks have.
use Prim.Native.Nat.{ℕ, ◌-◌, ◌<◌}
use mathlib.Core.Path.{◌≡◌, refl, sym, ◌∙◌}
use mathlib.Core.Logic.{◌⊎◌, inl, inr}
use mathlib.Core.Bool.{Bool, false, So}
use lib.ListN.{length}
use Rattle.model.specs.Bytes.{Bytes}
use Rattle.model.specs.Journal.{journal_at}
use Rattle.model.specs.declared.Name.{Name}
use Rattle.model.specs.declared.CommitLayout.TheVariants.{Numbers}
use Rattle.model.specs.declared.Tail.{Tail}
use Rattle.crash.specs.Book.{is_committed, is_retired, required_in, kept}
use Rattle.crash.specs.Ledger.{Ledger, record_blocks}
use Rattle.crash.proofs.Books.Tests.{impossible}
use Rattle.crash.proofs.Books.BookEntries.{next_name}
use Rattle.crash.proofs.Books.Largest.{member_of, stage_of, kept_more}
use Rattle.crash.proofs.Blocks.Invariant.{Inv, homed}
use Rattle.crash.proofs.Disk.Relation.{WellFormed, contents, JournalStands, DiskStands}
use Rattle.drive.specs.LostCommits.{book_without, ledger_without}
use Rattle.drive.proofs.Lost.Without.{none_commits, without_records, Last, well_formed_without, without_running}
use Rattle.drive.proofs.Lost.Mixed.{known_formed, whole, stored_part, contents_is, contents_unlost, prefix_stands}
use Rattle.drive.proofs.Behind.Cached.{Cached}

abbrev pub no_commit : Name → Bool
no_commit t = false

module _ {l : Ledger} (f : WellFormed l) {tail_at : ℕ → Tail} {d : Bytes} (z : DiskStands Numbers l d tail_at) where
  none_last : Last l no_commit
  none_last t h = impossible h

  formed₀ : WellFormed (ledger_without no_commit l)
  formed₀ = well_formed_without f no_commit none_last

  none_committed : (t : Name) → is_committed (stage_of (book_without no_commit l.book) t) ≡ is_committed (stage_of l.book t)
  unfolding book_without
  none_committed t = none_commits (length (l.book.entry t).blocks) (stage_of l.book t)

  journal_none : (c : ℕ) → c < l.shape.cores → JournalStands (ledger_without no_commit l) d c (tail_at c)
  unfolding book_without
  journal_none c h =
      let j = z.journals c h in
      let k = l.book in
      let t = next_name c k in
      let e : contents (ledger_without no_commit l) c ≡ whole l c (k.uncommitted c - k.oldest c) = contents_unlost f c h no_commit refl in
      let n : record_blocks (book_without no_commit k) c (k.oldest c) (k.next c - k.oldest c) ≡ record_blocks k c (k.oldest c) (k.next c - k.oldest c) = without_records no_commit k c (k.oldest c) (k.next c - k.oldest c) in
      record {
        number = j.number;
        position = j.position;
        stands =
            rw e
            (prefix_stands (λ (q : ℕ). journal_at l.shape d c q) (tail_at c).position (whole l c (k.uncommitted c - k.oldest c)) (stored_part l c) (contents l c) (contents_is l c) j.stands);
        clear = j.clear;
        room = rw n j.room;
        reserved = λ h. rw n (j.reserved (sym (without_running false (length (k.entry t).blocks) (stage_of k t)) ∙ h));
      }

  pub cached_barrier : {home : ℕ → Bytes} → Inv home l → Cached l tail_at no_commit no_commit (λ (c : ℕ). false) d d
  cached_barrier v =
      let more : (t : Name) → So (member_of (kept l.book) t) → So (member_of (kept (book_without no_commit l.book)) t)
      = kept_more l.book (book_without no_commit l.book) (known_formed f) (known_formed formed₀) (λ t h. none_committed t ∙ h) (λ t u h n. unfold book_without required_in in n) in
      record {
        last = none_last;
        safe = λ t h. more t (was_kept v t h);
        stands = record { size = z.size; bytes = z.bytes; master = z.master; numbered = λ c h g. refl; journals = journal_none };
        single = λ c q h p e. impossible p;
        homing = λ t h. impossible h;
        home_same = λ b h n. refl;
        stored_behind = λ c h p n. (refl, (z.journals c h).stands);
      }
    where
      was_kept : {home : ℕ → Bytes} → Inv home l → (t : Name) → (So (is_retired (stage_of l.book t)) ⊎ ((b : ℕ) × So (homed l b t))) → So (member_of (kept l.book) t)
      was_kept v t (inl h) = v.retired_kept t h
      was_kept v t (inr (b, h)) = (v.block_inv b).homed_kept t h
