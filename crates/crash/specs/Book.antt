-- A book of transactions: section 'What a cut brings back'. Service book and ledger are kept by these same rules.
use Rattle.std.specs.Prelude.{ℕ, suc, ◌+◌, List, [], ◌∷◌, ◌++◌, Bool, true, false, cond, length, replicate, eqb, leb, ltb}
use Rattle.std.proofs.Math.Option.{Option, none, some}
use Rattle.model.specs.Limits.{block_size}
use Rattle.model.specs.Lists.{all, any, select}
use Rattle.model.specs.Bytes.{Bytes, replaced}
use Rattle.model.specs.Card.{new_name, same_name}
use Rattle.model.specs.Shrink.{shrink}
use Rattle.model.specs.Valid.{Order, required}
use Rattle.model.specs.declared.Name.{Name}

-- how far a transaction has come: a closed one with the stores counted, a committed one with the home stores counted
pub data Stage : Type 0 where
  absent : Stage
  running : Stage
  closed : ℕ → Stage
  committed : ℕ → Stage
  retired : Stage

abbrev pub is_running : Stage → Bool
is_running absent = false
is_running running = true
is_running (closed n) = false
is_running (committed n) = false
is_running retired = false

abbrev pub is_closed : Stage → Bool
is_closed absent = false
is_closed running = false
is_closed (closed n) = true
is_closed (committed n) = true
is_closed retired = true

-- 'It then holds nothing, but stays in the book as committed.'
abbrev pub is_committed : Stage → Bool
is_committed absent = false
is_committed running = false
is_committed (closed n) = false
is_committed (committed n) = true
is_committed retired = true

abbrev pub is_retired : Stage → Bool
is_retired absent = false
is_retired running = false
is_retired (closed n) = false
is_retired (committed n) = false
is_retired retired = true

abbrev pub stage_count : Stage → ℕ
stage_count absent = 0
stage_count running = 0
stage_count (closed n) = n
stage_count (committed n) = n
stage_count retired = 0

-- a transaction in the book: the blocks that it took, in order, all names in its list, how far it has come
pub record Entry : Type 0 where
  pub blocks : List ℕ
  pub names : List Name
  pub stage : Stage

-- a write noted: its transaction, the one that holds the block after it, and what was written where
pub record Write : Type 0 where
  pub writer : Name
  pub holder : Name
  pub block : ℕ
  pub offset : ℕ
  pub bytes : Bytes

-- what a book begins with, and no command changes while it lasts: the rule of what depends on what, and each core's first number
-- since the card came up
pub record Beginning : Type 0 where
  pub order : Order
  pub first : ℕ → ℕ

-- the transactions opened and what is known of each; the writes, the newest first; for each core the numbers of its oldest
-- unretired transaction, of its first uncommitted one, and of its running one, or of the next to open where there is none: a
-- core's transactions close, commit and retire in the order of their numbers
pub record Book : Type 0 where
  pub begun : Beginning
  pub opened : List Name
  pub entry : Name → Entry
  pub writes : List Write
  pub oldest : ℕ → ℕ
  pub uncommitted : ℕ → ℕ
  pub next : ℕ → ℕ

-- 'it has no transaction and no write'; the numbers of each core begin as given
unfoldable pub empty_book : Order → (ℕ → ℕ) → Book
empty_book o first =
    record {
      begun = record { order = o; first = first };
      opened = [];
      entry = λ (t : Name). record { blocks = []; names = []; stage = absent };
      writes = [];
      oldest = first;
      uncommitted = first;
      next = first;
    }

-- ---- one entry changed, one number raised
unfoldable pub change : Name → (Entry → Entry) → (Name → Entry) → Name → Entry
change t g entry u = let e = entry u in cond (same_name u t) (g e) e

unfoldable pub raise : ℕ → (ℕ → ℕ) → ℕ → ℕ
raise c n i = cond (eqb i c) (suc (n i)) (n i)

abbrev pub staged : Stage → Entry → Entry
staged g e = record { blocks = e.blocks; names = e.names; stage = g }

abbrev pub taking : ℕ → Entry → Entry
taking b e = record { blocks = e.blocks ++ (b ∷ []); names = e.names; stage = e.stage }

-- 'A name stands once in a list.'
abbrev pub naming : Name → Entry → Entry
naming n e = record { blocks = e.blocks; names = cond (any (same_name n) e.names) e.names (e.names ++ (n ∷ [])); stage = e.stage }

-- ---- which transactions a core has: one running; one closed and still uncommitted; a committed unretired one
abbrev pub has_running : Book → ℕ → Bool
has_running k c = is_running (k.entry (new_name c (k.next c))).stage

abbrev pub has_closed : Book → ℕ → Bool
has_closed k c = ltb (k.uncommitted c) (k.next c)

abbrev pub has_committed : Book → ℕ → Bool
has_committed k c = ltb (k.oldest c) (k.uncommitted c)

-- ---- WRITE: 'opens a transaction if its core has none running'
unfoldable pub begin : Name → Book → Book
begin t k =
    record {
      begun = k.begun;
      opened = t ∷ k.opened;
      entry = change t (staged running) k.entry;
      writes = k.writes;
      oldest = k.oldest;
      uncommitted = k.uncommitted;
      next = k.next;
    }

-- the holder of block b: who held it after its last write, 'until that one is retired'
unfoldable pub book_holder : Book → ℕ → List Write → Option Name
book_holder k b [] = none
book_holder k b (w ∷ ws) = cond (eqb b w.block) (cond (is_retired (k.entry w.holder).stage) none (some w.holder)) (book_holder k b ws)

-- 'When T writes a block': no holder; T holds it; another running U holds it; a closed U holds it
pub data Meeting : Type 0 where
  no_holder : Meeting
  own : Meeting
  running_holder : Name → Meeting
  closed_holder : Name → Meeting

unfoldable pub meets : Book → Name → Option Name → Meeting
meets k t none = no_holder
meets k t (some u) = cond (same_name u t) own (cond (is_closed (k.entry u).stage) (closed_holder u) (running_holder u))

-- 'gives holder and names by the four rules'
unfoldable pub ruled : Meeting → Name → ℕ → (Name → Entry) → Name → Entry
ruled no_holder t b entry = change t (taking b) entry
ruled own t b entry = entry
ruled (running_holder u) t b entry = change u (naming t) (change t (naming u) entry)
ruled (closed_holder u) t b entry = change t (λ (e : Entry). taking b (naming u e)) entry

unfoldable pub holder_after : Meeting → Name → Name
holder_after no_holder t = t
holder_after own t = t
holder_after (running_holder u) t = u
holder_after (closed_holder u) t = t

-- 'and notes the write with its transaction'
unfoldable pub note : Name → ℕ → ℕ → Bytes → Book → Book
note t b o v k =
    let m = meets k t (book_holder k b k.writes) in
    record {
      begun = k.begun;
      opened = k.opened;
      entry = ruled m t b k.entry;
      writes = record { writer = t; holder = holder_after m t; block = b; offset = o; bytes = v } ∷ k.writes;
      oldest = k.oldest;
      uncommitted = k.uncommitted;
      next = k.next;
    }

unfoldable pub write_book : ℕ → ℕ → ℕ → Bytes → Book → Book
write_book c b o v k =
    let t = new_name c (k.next c) in
    note t b o v (cond (has_running k c) k (begin t k))

-- ---- CLOSE: 'makes the core's running one closed'
unfoldable pub close_book : ℕ → Book → Book
close_book c k =
    record {
      begun = k.begun;
      opened = k.opened;
      entry = change (new_name c (k.next c)) (staged (closed 0)) k.entry;
      writes = k.writes;
      oldest = k.oldest;
      uncommitted = k.uncommitted;
      next = raise c k.next;
    }

-- ---- STORE: 'counts for the core's closed and still uncommitted one: as many as the blocks that it took, and two, commit it'
unfoldable pub store_book : ℕ → Book → Book
store_book c k =
    let t = new_name c (k.uncommitted c) in
    let e = k.entry t in
    let n = suc (stage_count e.stage) in
    let last = leb (length e.blocks + 2) n in
    record {
      begun = k.begun;
      opened = k.opened;
      entry = change t (staged (cond last (committed 0) (closed n))) k.entry;
      writes = k.writes;
      oldest = k.oldest;
      uncommitted = cond last (raise c k.uncommitted) k.uncommitted;
      next = k.next;
    }

-- ---- CHECKPOINT: 'counts for the core's oldest committed unretired one: one for each block that it took'
unfoldable pub checkpoint_book : ℕ → Book → Book
checkpoint_book c k =
    let t = new_name c (k.oldest c) in
    record {
      begun = k.begun;
      opened = k.opened;
      entry = change t (staged (committed (suc (stage_count (k.entry t).stage)))) k.entry;
      writes = k.writes;
      oldest = k.oldest;
      uncommitted = k.uncommitted;
      next = k.next;
    }

-- ---- RETIRE: 'and one for the master, retire it'; paper 02, (g): 'does the master store, and counts for it in the service book'
unfoldable pub retire_book : ℕ → Book → Book
retire_book c k =
    record {
      begun = k.begun;
      opened = k.opened;
      entry = change (new_name c (k.oldest c)) (staged retired) k.entry;
      writes = k.writes;
      oldest = raise c k.oldest;
      uncommitted = k.uncommitted;
      next = k.next;
    }

-- ---- kept
-- those opened that are committed
unfoldable pub committed_in : Book → List Name
committed_in k = select (λ (t : Name). is_committed (k.entry t).stage) k.opened

-- what it depends on: 'those its list names' and, paper 02, (c), 'the one before it on its core since the card came up', of which the
-- first has none; a retired one stays in the book
unfoldable pub required_in : Book → Name → List Name
required_in k t = let ns = (k.entry t).names in cond (ltb (k.begun.first t.core) t.number) (required k.begun.order t ns) ns

-- each of them is in the set
unfoldable pub required_within : Book → List Name → Name → Bool
required_within k ts t = all (λ (n : Name). any (same_name n) ts) (required_in k t)

-- 'Kept is the largest set of the book's committed transactions in which each has all that it depends on there'; 'read with this added
-- dependence'
unfoldable pub kept : Book → List Name
kept k = shrink (required_within k) (committed_in k)

-- 'the writes of the kept transactions, in the order issued'
unfoldable pub kept_writes : Book → List Write
kept_writes k = select (λ (w : Write). any (same_name w.writer) (kept k)) k.writes

-- ---- areas: a block's bytes with writes made in order, the newest first in the list
unfoldable pub image : (ℕ → Bytes) → List Write → ℕ → Bytes
image base [] b = base b
image base (w ∷ ws) b = cond (eqb b w.block) (replaced w.offset 4 (image base ws b) w.bytes) (image base ws b)

-- 'in the blank one all are zero'
unfoldable pub blank : ℕ → Bytes
blank b = replicate block_size 0
