-- What holds, between two barriers, of the disk behind the last one.
use Prim.Native.Nat.{ℕ, ◌+◌, ◌<◌}
use mathlib.Core.Path.{◌≡◌}
use mathlib.Core.Logic.{◌⊎◌}
use mathlib.Core.Bool.{Bool, false, So}
use mathlib.Core.List.{[]}
use lib.ListN.{length, get_or}
use lib.Dec.{eqb}
use Rattle.model.specs.Lists.{any}
use Rattle.model.specs.Bytes.{Bytes, block_at}
use Rattle.model.specs.Shape.{home_block}
use Rattle.model.specs.Journal.{journal_at}
use Rattle.model.specs.declared.Name.{Name}
use Rattle.model.specs.declared.Tail.{Tail}
use Rattle.model.specs.declared.CommitLayout.TheVariants.{Numbers}
use Rattle.crash.specs.Book.{is_retired, stage_count, kept}
use Rattle.crash.specs.Ledger.{Ledger}
use Rattle.crash.proofs.Books.BookEntries.{uncommitted_name}
use Rattle.crash.proofs.Books.Largest.{member_of, stage_of}
use Rattle.crash.proofs.Blocks.Invariant.{homed}
use Rattle.crash.proofs.Disk.Relation.{contents, DiskStands}
use Rattle.drive.specs.LostCommits.{book_without, ledger_without}
use Rattle.drive.proofs.Lost.Without.{Last}
use Rattle.drive.proofs.Lost.Mixed.{last_name, Single}

-- Since the barrier were stored: of `since` the commit, of `homes` a block home, of the cores of `parts` a part of the closed transaction.
pub record Cached (l : Ledger) (tail_at : ℕ → Tail) (since homes : Name → Bool) (parts : ℕ → Bool) (behind now : Bytes) : Type 0 where
  pub last : Last l since
  -- who stored home or retired is kept without these commits
  pub safe : (t : Name) → (So (is_retired (stage_of l.book t)) ⊎ ((b : ℕ) × So (homed l b t))) → So (member_of (kept (book_without since l.book)) t)
  -- without them the ledger stands on the disk behind the barrier
  pub stands : DiskStands Numbers (ledger_without since l) behind tail_at
  -- now each of them stands at one place alone
  pub single : Single l tail_at since now
  pub homing : (t : Name) → So (homes t) → (is_retired (stage_of l.book t) ≡ false) × So (member_of (kept (book_without since l.book)) t)
  -- a home block that none of these took is as it was
  pub home_same : (b : ℕ) → b < l.shape.blocks → ((t : Name) → So (homes t) → any (eqb b) (l.book.entry t).blocks ≡ false) → block_at behind (home_block b) ≡ block_at now (home_block b)
  -- what is stored of a closed transaction, none of it since then, stands behind the barrier, and no commit of its core is since then
  pub stored_behind : (c : ℕ) → c < l.shape.cores → parts c ≡ false → 0 < stage_count (stage_of l.book (uncommitted_name c l.book))
      → (since (last_name l c) ≡ false)
      × ((q : ℕ) → q < length (contents l c) → journal_at l.shape behind c ((tail_at c).position + q) ≡ get_or (contents l c) q [])
