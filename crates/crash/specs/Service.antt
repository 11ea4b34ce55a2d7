-- The service book: 'fed each command with its answer, and nothing of the card's disk, memory or state'.
use Rattle.std.specs.Prelude.{ℕ, zero, suc, cond}
use mathlib.Core.List.{List, [], ◌++◌, flat_map}
use Rattle.model.specs.Lists.{below}
use Rattle.model.specs.Bytes.{Bytes}
use Rattle.model.specs.Valid.{Order}
use Rattle.crash.specs.Book.{Book, Write, empty_book, has_running, has_closed, has_committed, write_book, close_book, store_book, checkpoint_book, retire_book, kept_writes, image, blank}
use Rattle.model.specs.Tape.{CHECKPOINT, CLOSE, CUT, Command, FORMAT, RECOVER, RETIRE, STORE, WRITE}

-- the number of home blocks, from FORMAT's operand; the kept writes so far, the newest first; the book since the last cut
pub record Service : Type 0 where
  pub blocks : ℕ
  pub saved : List Write
  pub book : Book

-- its transactions are numbered from 1 since the last cut: it cannot know the card's numbers
unfoldable pub empty_service : Order → ℕ → Service
empty_service o n = record { blocks = n; saved = []; book = empty_book o (λ (c : ℕ). 1) }

-- what a command does in a book: the transactions, holders and names; one for a transaction that is not there does nothing. Paper 02, (h):
-- a WRITE of either task is noted alike, 'Such writes count as issued writes in what a cut brings back.'
unfoldable pub noted : Command → Book → Book
noted (FORMAT c b j) k = k
noted (WRITE task c b o v) k = write_book c b o v k
noted (CLOSE c) k = cond (has_running k c) (close_book c k) k
noted (STORE c) k = cond (has_closed k c) (store_book c k) k
noted (CHECKPOINT c) k = cond (has_committed k c) (checkpoint_book c k) k
noted CUT k = k
noted RECOVER k = k
noted (RETIRE c) k = cond (has_committed k c) (retire_book c k) k

abbrev pub with_noted : Command → Service → Service
with_noted k v = record { blocks = v.blocks; saved = v.saved; book = noted k v.book }

-- 'CUT adds the writes of the kept transactions, in the order issued, to the kept writes, then strikes out every
-- transaction, holder and name.'
unfoldable pub cut_service : Service → Service
cut_service v = record { blocks = v.blocks; saved = kept_writes v.book ++ v.saved; book = empty_book v.book.begun.order (λ (c : ℕ). 1) }

-- a command carried out; 'RECOVER does nothing.'
unfoldable pub served : Command → Service → Service
served (FORMAT c b j) v = empty_service v.book.begun.order b
served (WRITE task c b o d) v = with_noted (WRITE task c b o d) v
served (CLOSE c) v = with_noted (CLOSE c) v
served (STORE c) v = with_noted (STORE c) v
served (CHECKPOINT c) v = with_noted (CHECKPOINT c) v
served CUT v = cut_service v
served RECOVER v = v
served (RETIRE c) v = with_noted (RETIRE c) v

-- a command with its answer: 'A refused command changes nothing in it.'
unfoldable pub fed : Command → ℕ → Service → Service
fed k zero v = served k v
fed k (suc n) v = v

-- 'The book's area is the blank one with the kept writes made in order.': the bytes of its blocks
unfoldable pub book_area : Service → Bytes
book_area v = flat_map (image blank v.saved) (below v.blocks)
