-- A core's oldest committed transaction as the code finds it, the tests of those that share a block with it, and what refuses CHECKPOINT
-- and RETIRE alike.
use Rattle.std.specs.Prelude.{ℕ, ◌≤◌, ◌<◌, min, ◌≡◌, List, map, Bool, cond, ◌&&◌, ◌||◌, length, get_or, ltb, eqb}
use Rattle.model.specs.Lists.{below, any}
use Rattle.model.specs.Bytes.{Bytes}
use Rattle.model.specs.Card.{taken, shape_of, tail_of, core_of, committed_count}
use Rattle.model.specs.Journal.{record_at, blocks_of}
use Rattle.model.specs.Checkpoint.{committed_of, oldest, share}
use Rattle.model.specs.Limits.{max_number}
use Rattle.model.specs.Command.{World}
use Rattle.model.specs.declared.Shape.{Shape}
use Rattle.model.specs.declared.Transaction.{Transaction}
use Rattle.model.specs.declared.Card.{Card}
use Rattle.model.specs.declared.CommitLayout.TheVariants.{Numbers}
use Rattle.model.specs.declared.Committed.{Committed}
use Rattle.std.specs.Prelude.{Option, Some, None, Result, Ok}
use Rattle.model.specs.Refusal.{answer_of}
use Rattle.model.specs.declared.Refusal.{Refusal}
use Rattle.model.proofs.Limits.{InRange}
use Rattle.model.proofs.Journal.{KnownRecord}
use Rattle.layout.specs.Loops.{some}
use Rattle.journal.specs.declared.extents.Extent.{Extent}
use Rattle.journal.specs.Records.{numbers_of, record_in, records_in, RunsTested}
use Rattle.journal.specs.Walk.{Reads}
use Rattle.images.specs.Newest.{shares_below}

-- ---- read
-- core c's count; a journal has no more than twelve records
unfoldable pub count_at : Card → ℕ → ℕ
count_at x c = min (committed_count x c) 12

unfoldable pub counts : Card → List ℕ
counts x = map (count_at x) (below 8)

-- an array of the counts; those of cores that the disk has not do not matter
unfoldable pub Counts : Card → List ℕ → Type 0
Counts x most = (c : ℕ) → c < (shape_of x).cores → get_or most c 0 ≡ count_at x c

-- core c's oldest transaction, if the card counts one
unfoldable pub oldest_at : Card → Bytes → ℕ → Option Committed
oldest_at x d c =
    cond (eqb (count_at x c) 0) None (record_at Numbers (shape_of x) d c (tail_of x c).number (tail_of x c).position (shape_of x).journal)

-- the committed transactions of a card that is up, as they were read: of each journal as many as the card counts
pub record ReadNow (x : Card) (d : Bytes) (xs : List Extent) (start count : List ℕ) : Type 0 where
  pub reads : Reads Numbers (shape_of x) d x.tails (counts x) xs start count
  pub tested : RunsTested (shape_of x) d xs start count

-- core c's oldest among them, the first of its records
unfoldable pub oldest_in : Card → List Extent → List ℕ → List ℕ → ℕ → Option Committed
oldest_in x xs start count c = cond (eqb (get_or count c 0) 0) None (Some (record_in xs c (tail_of x c).number (get_or start c 0)))

-- a transaction that was read from its record, on a whole disk of this shape
pub record IsRead (s : Shape) (d : Bytes) (e : Committed) : Type 0 where
  pub long : length d ≡ 32896
  pub range : InRange s
  pub core : e.core < s.cores
  pub known : KnownRecord Numbers s d e.core e.number e

-- core c's oldest transaction, found among those that were read
pub record IsOldest (x : Card) (d : Bytes) (c : ℕ) (xs : List Extent) (start count : List ℕ) (e : Committed) : Type 0 where
  pub long : length d ≡ 32896
  pub core : c < (shape_of x).cores
  pub read : ReadNow x d xs start count
  pub first : oldest_at x d c ≡ Some e

-- ---- those closed, of lower stamp, that share a block with e
unfoldable pub lower_closed : Shape → Bytes → Committed → Transaction → Bool
lower_closed s d e t = t.live && ltb t.stamp e.stamp && share (blocks_of s d e) (taken t)

-- the closed transaction of core i is one
unfoldable pub closed_lower : Card → Shape → Bytes → Committed → ℕ → Bool
closed_lower x s d e i = lower_closed s d e (core_of x i).closed

-- one of those, or a committed one, of the records read
unfoldable pub lower_shares : Card → Shape → Bytes → List Extent → List ℕ → List ℕ → Committed → Bool
lower_shares x s d xs start count e =
    any (shares_below s d e) (records_in s xs (numbers_of x.tails) start count) || some s.cores (closed_lower x s d e)

-- ---- asked
-- core c's oldest transaction: it was read from its record, and its number is one that a descriptor may have
pub record OldestFound (c : ℕ) (w : World) (e : Committed) : Type 0 where
  pub core : c < 8
  pub first : oldest (committed_of w c) ≡ e
  pub read : IsRead (shape_of w.card) w.disk e
  pub number : e.number ≤ max_number

-- what is answered to what both ask: the number n, and where it is 0 the oldest transaction
pub record OldestAsked (n c : ℕ) (w : World) (r : Result Committed Refusal) : Type 0 where
  pub number : answer_of r ≡ n
  pub found : (e : Committed) → r ≡ Ok e → OldestFound c w e
