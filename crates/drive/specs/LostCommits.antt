-- A book without lost commits. Paper 02, (m): 'A commit counts as committed for a cut only if its store survives.' A transaction whose
-- commit is lost is closed, with all but the commit stored; of any other that is not committed nothing counts as stored.
use Rattle.std.specs.Prelude.{ℕ, ◌+◌, ◌-◌, Bool, cond, length}
use Rattle.model.specs.Card.{new_name}
use Rattle.model.specs.declared.Name.{Name}
use Rattle.crash.specs.Book.{Stage, absent, running, closed, committed, retired, Entry, Book, staged}
use Rattle.crash.specs.Ledger.{Ledger, with_book}

-- of a transaction that took n blocks; the commit of a retired one is behind a barrier, by 40
abbrev pub stage_without : Bool → ℕ → Stage → Stage
stage_without lost n absent = absent
stage_without lost n running = running
stage_without lost n (closed m) = closed 0
stage_without lost n (committed m) = cond lost (closed (n + 1)) (committed m)
stage_without lost n retired = retired

abbrev pub entry_without : Bool → Entry → Entry
entry_without lost e = staged (stage_without lost (length e.blocks) e.stage) e

-- a core's lost commit is that of its last committed transaction, which is then its first uncommitted one
unfoldable pub book_without : (Name → Bool) → Book → Book
book_without lost k =
    record {
      begun = k.begun;
      opened = k.opened;
      entry = λ (t : Name). entry_without (lost t) (k.entry t);
      writes = k.writes;
      oldest = k.oldest;
      uncommitted = λ (c : ℕ). cond (lost (new_name c (k.uncommitted c - 1))) (k.uncommitted c - 1) (k.uncommitted c);
      next = k.next;
    }

abbrev pub ledger_without : (Name → Bool) → Ledger → Ledger
ledger_without lost l = with_book l (book_without lost l.book)
