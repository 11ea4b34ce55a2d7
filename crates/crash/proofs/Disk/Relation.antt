-- What holds of ledger and card at every point of a run: the ledger is in order (`WellFormed`), the disk holds what the ledger
-- says (`DiskStands`), and card and memory agree with it (`CardUp`), or recovery will give the kept writes (`CardDown`).
-- Each command keeps this; the claims follow from it.
use Prim.Native.Nat.{ℕ, zero, suc, ◌+◌, ◌-◌, ◌≤◌, ◌<◌}
use native.Mathlib.Omega.{arith}
use mathlib.Core.Path.{◌≡◌}
use mathlib.Core.Logic.{◌⊎◌, ◌≢◌}
use mathlib.Core.List.{List, [], ◌++◌, flat_map, Memᴰ}
use mathlib.Core.Option.{Option, none, some}
use mathlib.Core.Bool.{true, false}
use lib.ListN.{length, take, get_or}
use lib.Dec.{leb, eqb}
use Rattle.model.specs.Lists.{below, any, select}
use Rattle.model.specs.Bytes.{Bytes, block_at}
use Rattle.model.specs.Shape.{home_block}
use Rattle.model.specs.Card.{new_name, taken, highest_of, no_holder, new_holder, tail_of, core_of, holder_of, is_held}
use Rattle.model.specs.Layout.{has_head, master_block, highest_in}
use Rattle.model.specs.Journal.{journal_at}
use Rattle.model.specs.Command.{World}
use Rattle.model.specs.Commit.{copy_block}
use Rattle.model.specs.declared.Phase.TheVariants.{Up, Down}
use Rattle.model.specs.declared.Shape.{Shape}
use Rattle.model.specs.declared.Tail.{Tail}
use Rattle.model.specs.declared.CommitLayout.{CommitLayout}
use Rattle.model.specs.declared.CommitLayout.TheVariants.{Numbers}
use Rattle.model.specs.Valid.{in_sequence}
use Rattle.model.specs.declared.Name.{Name}
use Rattle.model.specs.declared.Transaction.{Transaction}
use Rattle.model.specs.declared.Core.{Core}
use Rattle.model.specs.Card.{Holder}
use Rattle.model.proofs.Limits.{InRange}
use Rattle.crash.specs.Book.{absent, running, closed, committed, retired, is_running, is_closed, stage_count, Entry, Write, Book, book_holder}
use Rattle.crash.specs.Ledger.{record_of, Ledger, image_now, valid_in, blocks_in, record_blocks, kept_image}
use Rattle.crash.specs.Claims.{IsBytes}
use Rattle.crash.proofs.Books.BookEntries.{next_name, oldest_name, uncommitted_name}

-- a block of bytes
pub record IsBlock (x : Bytes) : Type 0 where
  pub size : length x ≡ 128
  pub bytes : IsBytes x

-- ---- the ledger is in order
-- a transaction within the limits of the format
pub record Limits (s : Shape) (t : Name) (e : Entry) : Type 0 where
  pub core : t.core < s.cores
  pub low : 1 ≤ t.number
  pub high : t.number ≤ 4000000000
  pub few : length e.blocks ≤ 8
  pub blocks : (b : ℕ) → Memᴰ b e.blocks → b < s.blocks
  pub distinct : (i j : ℕ) → i < length e.blocks → j < length e.blocks → get_or e.blocks i 0 ≡ get_or e.blocks j 0 → i ≡ j

-- a write within its block
pub record WriteFits (s : Shape) (w : Write) : Type 0 where
  pub block : w.block < s.blocks
  pub offset : w.offset ≤ 124
  pub size : length w.bytes ≡ 4
  pub bytes : IsBytes w.bytes

-- what a closed transaction has
pub record Frozen (l : Ledger) (t : Name) : Type 0 where
  pub count : length (l.images t) ≡ length (l.book.entry t).blocks
  pub images : (i : ℕ) → i < length (l.images t) → IsBlock (get_or (l.images t) i [])
  pub low : 1 ≤ l.stamp t
  pub high : l.stamp t ≤ l.closes

-- core c's transactions below its oldest unretired one: from its first number on all are retired
pub record RanksBelow (k : Book) (c : ℕ) : Type 0 where
  pub positive : 1 ≤ k.oldest c
  pub from_first : k.begun.first c ≤ k.oldest c
  pub old : (i : ℕ) → i < k.oldest c → ((k.entry (new_name c i)).stage ≡ absent) ⊎ ((k.entry (new_name c i)).stage ≡ retired)
  pub all_retired : (i : ℕ) → k.begun.first c ≤ i → i < k.oldest c → (k.entry (new_name c i)).stage ≡ retired

-- the stages of core c's transactions by number
pub record Ranks (k : Book) (c : ℕ) : Type 0 where
  pub below : RanksBelow k c
  pub low : k.oldest c ≤ k.uncommitted c
  pub mid : k.uncommitted c ≤ k.next c
  pub top : k.next c ≤ 4000000001
  pub first : k.oldest c < k.uncommitted c
      → (n : ℕ) × ((k.entry (oldest_name c k)).stage ≡ committed n) × (n ≤ length (k.entry (oldest_name c k)).blocks)
  pub done : (i : ℕ) → k.oldest c < i → i < k.uncommitted c → (k.entry (new_name c i)).stage ≡ committed 0
  -- closed and not committed: on a card that is up one at most (`CoreUp.one`); where a cut loses the commit before it, two
  pub waiting : (i : ℕ) → k.uncommitted c ≤ i → i < k.next c
      → (n : ℕ) × ((k.entry (new_name c i)).stage ≡ closed n) × (n ≤ length (k.entry (new_name c i)).blocks + 1)
  pub current : ((k.entry (next_name c k)).stage ≡ absent) ⊎ ((k.entry (next_name c k)).stage ≡ running)
  pub rest : (i : ℕ) → k.next c < i → (k.entry (new_name c i)).stage ≡ absent

-- the first of them, which STORE stores
pub first_waiting : {k : Book} {c : ℕ} → Ranks k c → k.uncommitted c < k.next c
    → (n : ℕ) × ((k.entry (uncommitted_name c k)).stage ≡ closed n) × (n ≤ length (k.entry (uncommitted_name c k)).blocks + 1)
first_waiting {k} {c} r h = r.waiting (k.uncommitted c) (omega arith) h

-- the sum of the next numbers of the cores below n
unfoldable pub sum_next : Book → ℕ → ℕ
sum_next k zero = 0
sum_next k (suc n) = sum_next k n + k.next n

pub record WellFormed (l : Ledger) : Type 0 where
  pub sequence : l.book.begun.order ≡ in_sequence
  pub range : InRange l.shape
  pub ranks : (c : ℕ) → c < l.shape.cores → Ranks l.book c
  pub far : (t : Name) → l.shape.cores ≤ t.core → (l.book.entry t).stage ≡ absent
  pub limits : (t : Name) → (l.book.entry t).stage ≢ absent → Limits l.shape t (l.book.entry t)
  pub unopened : (t : Name) → (l.book.entry t).stage ≡ absent → ((l.book.entry t).blocks ≡ []) × ((l.book.entry t).names ≡ [])
  pub named : (t u : Name) → Memᴰ u (l.book.entry t).names → (l.book.entry u).stage ≢ absent
  pub frozen : (t : Name) → is_closed (l.book.entry t).stage ≡ true → Frozen l t
  pub stamps : (t u : Name) → is_closed (l.book.entry t).stage ≡ true → is_closed (l.book.entry u).stage ≡ true → l.stamp t ≡ l.stamp u → t ≡ u
  -- of two closed transactions of a core the higher number has the higher stamp
  pub ascending : (c i j : ℕ) → i < j → is_closed (l.book.entry (new_name c i)).stage ≡ true → is_closed (l.book.entry (new_name c j)).stage ≡ true
      → l.stamp (new_name c i) < l.stamp (new_name c j)
  pub closes : l.closes ≤ sum_next l.book l.shape.cores
  pub opened : (t : Name) → Memᴰ t l.book.opened → (l.book.entry t).stage ≢ absent
  pub known : (t : Name) → (l.book.entry t).stage ≢ absent → Memᴰ t l.book.opened
  pub writes : (w : Write) → Memᴰ w l.book.writes → WriteFits l.shape w
  pub saved : (w : Write) → Memᴰ w l.saved → WriteFits l.shape w

-- ---- the disk holds what the ledger says
-- core c's journal from its tail: the records stored whole, then what is stored of the closed one
unfoldable pub contents : Ledger → ℕ → List Bytes
contents l c =
    let k = l.book in
    let t = uncommitted_name c k in
    flat_map (λ (i : ℕ). record_of l (new_name c (k.oldest c + i))) (below (k.uncommitted c - k.oldest c))
    ++ take (stage_count (k.entry t).stage) (record_of l t)

pub record JournalStands (l : Ledger) (d : Bytes) (c : ℕ) (t : Tail) : Type 0 where
  pub number : t.number ≡ l.book.oldest c
  pub position : t.position < l.shape.journal
  pub stands : (q : ℕ) → q < length (contents l c) → journal_at l.shape d c (t.position + q) ≡ get_or (contents l c) q []
  -- no commit of an uncommitted number lies anywhere in the journal: so a torn or stale record is never read
  pub clear : (i q : ℕ) → l.book.uncommitted c ≤ i → has_head 2 i (journal_at l.shape d c q) ≡ false
  -- the records of all closed ones fit, and so will that of the running one
  pub room : record_blocks l.book c (l.book.oldest c) (l.book.next c - l.book.oldest c) ≤ l.shape.journal
  pub reserved : is_running (l.book.entry (next_name c l.book)).stage ≡ true
      → record_blocks l.book c (l.book.oldest c) (l.book.next c - l.book.oldest c) + (length (l.book.entry (next_name c l.book)).blocks + 2) ≤ l.shape.journal

pub record DiskStands (y : CommitLayout) (l : Ledger) (d : Bytes) (tail_at : ℕ → Tail) : Type 0 where
  pub size : length d ≡ 32896
  pub bytes : IsBytes d
  pub master : block_at d 0 ≡ master_block y l.shape tail_at
  -- where a record stands, the master says numbers
  pub numbered : (c : ℕ) → c < l.shape.cores → l.book.oldest c < l.book.uncommitted c → y ≡ Numbers
  pub journals : (c : ℕ) → c < l.shape.cores → JournalStands l d c (tail_at c)

-- ---- card and memory agree with the ledger
pub record Matches (t : Transaction) (e : Entry) : Type 0 where
  pub live : t.live ≡ true
  pub blocks : taken t ≡ e.blocks
  pub count : t.count ≡ length e.blocks
  pub highest : (c : ℕ) → c < 8 → highest_of t c ≡ highest_in e.names c
  pub block_room : length t.blocks ≡ 8
  pub number_room : length t.highest ≡ 8

pub record CoreUp (l : Ledger) (m : Bytes) (c : ℕ) (k : Core) : Type 0 where
  pub next : k.next ≡ l.book.next c
  pub one : l.book.next c ≤ suc (l.book.uncommitted c)
  pub used : k.used ≡ record_blocks l.book c (l.book.oldest c) (l.book.uncommitted c - l.book.oldest c)
  pub runs : is_running (l.book.entry (next_name c l.book)).stage ≡ true → Matches k.running (l.book.entry (next_name c l.book))
  pub idle : is_running (l.book.entry (next_name c l.book)).stage ≡ false → k.running.live ≡ false
  pub closing : l.book.uncommitted c < l.book.next c → Matches k.closed (l.book.entry (uncommitted_name c l.book))
  pub stored : l.book.uncommitted c < l.book.next c
      → ((l.book.entry (uncommitted_name c l.book)).stage ≡ closed k.stored) × (k.closed.stamp ≡ l.stamp (uncommitted_name c l.book))
  pub copies : l.book.uncommitted c < l.book.next c → (i : ℕ) → i < length (l.book.entry (uncommitted_name c l.book)).blocks
      → block_at m (copy_block c i) ≡ get_or (l.images (uncommitted_name c l.book)) i []
  pub none_closing : l.book.uncommitted c ≡ l.book.next c → k.closed.live ≡ false
  pub homed : l.book.oldest c < l.book.uncommitted c → (l.book.entry (oldest_name c l.book)).stage ≡ committed k.homed
  pub none_homed : l.book.oldest c ≡ l.book.uncommitted c → k.homed ≡ 0

abbrev pub holder_as : Option Name → Holder
holder_as none = no_holder
holder_as (some u) = new_holder u

-- (the invariant of layer A, `Inv` with the disk's home blocks, stands beside it)
pub record CardUp (l : Ledger) (w : World) : Type 0 where
  pub phase : w.card.phase ≡ Up
  pub ledger : l.phase ≡ Up
  pub shape : w.card.shape ≡ l.shape
  pub closes : w.card.closes ≡ l.closes
  pub memory : length w.memory ≡ 16384
  pub memory_bytes : IsBytes w.memory
  pub eight_tails : length w.card.tails ≡ 8
  pub eight_cores : length w.card.cores ≡ 8
  pub holder_room : length w.card.holders ≡ 64
  pub well_formed : WellFormed l
  pub disk : DiskStands Numbers l w.disk (tail_of w.card)
  pub cores : (c : ℕ) → c < l.shape.cores → CoreUp l w.memory c (core_of w.card c)
  pub holders : (b : ℕ) → b < l.shape.blocks → holder_of w.card b ≡ holder_as (book_holder l.book b l.book.writes)
  pub images : (b : ℕ) → b < l.shape.blocks → is_held (holder_of w.card b) ≡ true → block_at w.memory b ≡ image_now l b

-- ---- down: what recovery will give is fixed
-- the area that the kept writes give
unfoldable pub target : Ledger → ℕ → Bytes
target l b = kept_image l b

-- the newest image of block b among the ledger's valid transactions is the target's
pub record Newest (l : Ledger) (b : ℕ) : Type 0 where
  pub holder : Name
  pub valid : Memᴰ holder (valid_in l.book)
  pub place : ℕ
  pub within : place < length (l.book.entry holder).blocks
  pub block : get_or (l.book.entry holder).blocks place 0 ≡ b
  pub highest : (u : Name) → Memᴰ u (valid_in l.book) → Memᴰ b (l.book.entry u).blocks → l.stamp u ≤ l.stamp holder
  pub image : get_or (l.images holder) place [] ≡ target l b

pub record CardDown (l : Ledger) (w : World) : Type 0 where
  pub phase : w.card.phase ≡ Down
  pub ledger : l.phase ≡ Down
  pub memory : length w.memory ≡ 16384
  pub memory_bytes : IsBytes w.memory
  pub well_formed : WellFormed l
  pub layout : CommitLayout
  pub tail_at : ℕ → Tail
  pub disk : DiskStands layout l w.disk tail_at
  pub left : l.left ≡ select (leb w.card.recovered) (blocks_in l.shape.blocks l.book)
  pub newest : (b : ℕ) → Memᴰ b (blocks_in l.shape.blocks l.book) → Newest l b
  pub at_home : (b : ℕ) → b < l.shape.blocks → any (eqb b) l.left ≡ false → block_at w.disk (home_block b) ≡ target l b
