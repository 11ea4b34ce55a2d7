-- The ledger: the history of transactions with the card's own numbers, kept from commands and answers alone. It is no
-- part of paper 01; in its words the conditions 25 to 36, the content of the journals and the course of recovery are
-- stated without the card's state.
use Rattle.std.specs.Prelude.{ℕ, zero, suc, ◌+◌, ◌-◌, ◌%◌, min, List, [], ◌∷◌, ◌++◌, map, Bool, cond, not, ◌&&◌, ◌||◌, length, get_or, ltb, leb, eqb}
use Rattle.model.specs.Limits.{max_taken, max_number, max_offset}
use Rattle.model.specs.Lists.{below, all, any, select}
use Rattle.model.specs.Bytes.{Bytes, store, replaced, zero_memory}
use Rattle.model.specs.Card.{new_tail, new_name, same_name, is_blank, is_up, is_down}
use Rattle.model.specs.Shape.{in_range, home_block, journal_block, new_shape}
use Rattle.model.specs.Checkpoint.{share}
use Rattle.model.specs.Layout.{master_block, Tag, new_tag, descriptor_block, commit_block, highest_in, names_from, flag_of, escaped}
use Rattle.model.specs.Format.{formatted_disk}
use Rattle.model.specs.Recovery.{tail_on}
use Rattle.model.specs.Shrink.{shrink}
use Rattle.crash.specs.Book.{Book, Write, is_closed, is_committed, is_retired, stage_count, empty_book, required_in, has_running, has_closed, has_committed, write_book, close_book, kept_writes, image, blank}
use Rattle.crash.specs.Service.{noted}
use Rattle.model.specs.Tape.{block_limit, CHECKPOINT, CLOSE, CUT, Command, FORMAT, RECOVER, RETIRE, Read, STORE, WRITE, early, unknown, whole}
use Rattle.model.specs.Commit.{copy_block}
use Rattle.model.specs.Valid.{Order}
use Rattle.model.specs.Command.{BlockStore, DiskStore, no_store, one_store, whole_disk, with_store, refusal}
use Rattle.model.specs.declared.Tail.{Tail}
use Rattle.model.specs.declared.Name.{Name}
use Rattle.model.specs.declared.Phase.{Phase}
use Rattle.model.specs.declared.Phase.TheVariants.{Blank, Up, Down}
use Rattle.model.specs.declared.Shape.{Shape}
use Rattle.model.specs.declared.CommitLayout.TheVariants.{Numbers}

pub record Ledger : Type 0 where
  pub shape : Shape
  -- the kept writes of the time before the card came up, the newest first
  pub saved : List Write
  -- the transactions since the card came up
  pub book : Book
  -- the closes since then, and of each closed one its stamp and its images in the order taken
  pub closes : ℕ
  pub stamp : Name → ℕ
  pub images : Name → List Bytes
  -- blank, up or down; down, the blocks that recovery has still to store home
  pub phase : Phase
  pub left : List ℕ

-- a card that has come up
unfoldable pub fresh_ledger : Order → Shape → List Write → (ℕ → ℕ) → Ledger
fresh_ledger o s saved first =
    record {
      shape = s;
      saved = saved;
      book = empty_book o first;
      closes = 0;
      stamp = λ (t : Name). 0;
      images = λ (t : Name). [];
      phase = Up;
      left = [];
    }

-- before the opening FORMAT
unfoldable pub blank_ledger : Order → Ledger
blank_ledger o =
    record {
      shape = record { cores = 0; blocks = 0; journal = 0 };
      saved = [];
      book = empty_book o (λ (c : ℕ). 1);
      closes = 0;
      stamp = λ (t : Name). 0;
      images = λ (t : Name). [];
      phase = Blank;
      left = [];
    }

abbrev pub with_book : Ledger → Book → Ledger
with_book l k =
    record {
      shape = l.shape;
      saved = l.saved;
      book = k;
      closes = l.closes;
      stamp = l.stamp;
      images = l.images;
      phase = l.phase;
      left = l.left;
    }

-- the current image of a block: the area as the card came up, with all writes since
unfoldable pub image_now : Ledger → ℕ → Bytes
image_now l b = image (image blank l.saved) l.book.writes b

-- CLOSE: images and stamp are fixed
unfoldable pub close_ledger : ℕ → Ledger → Ledger
close_ledger c l =
    let t = new_name c (l.book.next c) in
    record {
      shape = l.shape;
      saved = l.saved;
      book = close_book c l.book;
      closes = suc l.closes;
      stamp = λ (u : Name). cond (same_name u t) (suc l.closes) (l.stamp u);
      images = λ (u : Name). cond (same_name u t) (map (image_now l) (l.book.entry t).blocks) (l.images u);
      phase = l.phase;
      left = l.left;
    }

-- ---- the valid set, of the ledger's committed unretired transactions
unfoldable pub unretired : Book → List Name
unretired k = select (λ (t : Name). is_committed (k.entry t).stage && not (is_retired (k.entry t).stage)) k.opened

-- 'each name listed is in the set or lies below its core's tail number', and so the one before
unfoldable pub met_in : Book → List Name → Name → Bool
met_in k ts t = all (λ (n : Name). ltb n.number (k.oldest n.core) || any (same_name n) ts) (required_in k t)

unfoldable pub valid_in : Book → List Name
valid_in k = shrink (met_in k) (unretired k)

-- the home blocks held in it, from the lowest to the highest
unfoldable pub blocks_in : ℕ → Book → List ℕ
blocks_in n k = select (λ (b : ℕ). any (λ (t : Name). any (eqb b) (k.entry t).blocks) (valid_in k)) (below n)

-- down, with these home blocks left to store
abbrev pub down_with : List ℕ → Ledger → Ledger
down_with bs l =
    record {
      shape = l.shape;
      saved = l.saved;
      book = l.book;
      closes = l.closes;
      stamp = l.stamp;
      images = l.images;
      phase = Down;
      left = bs;
    }

-- CUT: 'a recovery under way starts over'
unfoldable pub cut_ledger : Ledger → Ledger
cut_ledger l = down_with (blocks_in l.shape.blocks l.book) l

-- the first number after a recovery: 'two above the last committed one'
abbrev pub first_number : Ledger → ℕ → ℕ
first_number l c = min (l.book.uncommitted c + 1) (suc max_number)

-- RECOVER: a home store of the lowest block left; then the master store
unfoldable pub recover_ledger : List ℕ → Ledger → Ledger
recover_ledger [] l = fresh_ledger l.book.begun.order l.shape (kept_writes l.book ++ l.saved) (first_number l)
recover_ledger (b ∷ bs) l = down_with bs l

-- a command carried out
unfoldable pub carried_out : Command → Ledger → Ledger
carried_out (FORMAT c b j) l = fresh_ledger l.book.begun.order (new_shape c b j) [] (λ (i : ℕ). 1)
carried_out (WRITE task c b o v) l = with_book l (noted (WRITE task c b o v) l.book)
carried_out (CLOSE c) l = cond (has_running l.book c) (close_ledger c l) l
carried_out (STORE c) l = with_book l (noted (STORE c) l.book)
carried_out (CHECKPOINT c) l = with_book l (noted (CHECKPOINT c) l.book)
carried_out CUT l = cut_ledger l
carried_out RECOVER l = recover_ledger l.left l
carried_out (RETIRE c) l = with_book l (noted (RETIRE c) l.book)

-- a command with its answer: a refused one changes nothing
unfoldable pub entered : Command → ℕ → Ledger → Ledger
entered k zero l = carried_out k l
entered k (suc n) l = l

-- ---- what the journals hold
-- a transaction stored whole: paper 02, (d), of its list the highest number of each core
pub record Stored : Type 0 where
  pub name : Name
  pub blocks : List ℕ
  pub images : List Bytes
  pub stamp : ℕ
  pub names : List Name

unfoldable pub stored_of : Ledger → Name → Stored
stored_of l t =
    let e = l.book.entry t in
    record { name = t; blocks = e.blocks; images = l.images t; stamp = l.stamp t; names = names_from (highest_in e.names) }

-- core c's transactions stored whole since its tail, in order of number
unfoldable pub stored_since : Ledger → ℕ → List Stored
stored_since l c = map (λ (i : ℕ). stored_of l (new_name c (l.book.oldest c + i))) (below (l.book.uncommitted c - l.book.oldest c))

-- ---- the bytes that a command carried out stores
-- a transaction's blocks with their flags, and the blocks of its record in the order stored: 'descriptor, data in the
-- order taken, commit', which has the highest number named of each core
unfoldable pub record_tags : Ledger → Name → List Tag
record_tags l t =
    let bs = (l.book.entry t).blocks in
    map (λ (i : ℕ). new_tag (get_or bs i 0) (flag_of (get_or (l.images t) i []))) (below (length bs))

unfoldable pub record_of : Ledger → Name → List Bytes
record_of l t =
    descriptor_block t.number (record_tags l t)
    ∷ (map escaped (l.images t) ++ (commit_block t.number (l.stamp t) (highest_in (l.book.entry t).names) ∷ []))

-- 'blocks of the records of .. transactions': of n of core c, from number i on
unfoldable pub record_blocks : Book → ℕ → ℕ → ℕ → ℕ
record_blocks k c i zero = 0
record_blocks k c i (suc n) = length (k.entry (new_name c i)).blocks + 2 + record_blocks k c (suc i) n

-- STORE: the next block of the closed one's record, after those that stand from the tail
unfoldable pub record_store_in : ℕ → Ledger → Bytes → BlockStore
record_store_in c l d =
    let k = l.book in
    let t = new_name c (k.uncommitted c) in
    let n = stage_count (k.entry t).stage in
    let filled = record_blocks k c (k.oldest c) (k.uncommitted c - k.oldest c) in
    record { place = journal_block l.shape c ((tail_on d c).position + filled + n); bytes = get_or (record_of l t) n [] }

-- CHECKPOINT: the next image of the oldest one home
unfoldable pub home_store_in : ℕ → Ledger → BlockStore
home_store_in c l =
    let t = new_name c (l.book.oldest c) in
    let e = l.book.entry t in
    let m = stage_count e.stage in
    record { place = home_block (get_or e.blocks m 0); bytes = get_or (l.images t) m [] }

-- RETIRE: the master with the tail moved past the oldest one
unfoldable pub tails_past : ℕ → Ledger → Bytes → ℕ → Tail
tails_past c l d i =
    let n = length (l.book.entry (new_name c (l.book.oldest c))).blocks + 2 in
    cond (eqb i c) (new_tail (l.book.oldest c + 1) (((tail_on d c).position + n) % l.shape.journal)) (tail_on d i)

unfoldable pub master_store_in : ℕ → Ledger → Bytes → BlockStore
master_store_in c l d = record { place = 0; bytes = master_block Numbers l.shape (tails_past c l d) }

-- what the kept writes give a block, made over those kept when the card came up
abbrev pub kept_image : Ledger → ℕ → Bytes
kept_image l b = image blank (kept_writes l.book ++ l.saved) b

-- RECOVER: the lowest block left gets the bytes that the kept writes give it; where none is left, 'one master store
-- empties all journals'
unfoldable pub recover_store_in : List ℕ → Ledger → BlockStore
recover_store_in [] l = record { place = 0; bytes = master_block Numbers l.shape (λ (c : ℕ). new_tail (first_number l c) 0) }
recover_store_in (b ∷ bs) l = record { place = home_block b; bytes = kept_image l b }

-- the store of each command: its place and its bytes. 'Each does at most one store, save FORMAT'
abbrev pub store_after : Command → Ledger → Bytes → DiskStore
store_after (FORMAT c b j) l d = whole_disk (formatted_disk Numbers (new_shape c b j))
store_after (WRITE task c b o v) l d = no_store
store_after (CLOSE c) l d = no_store
store_after (STORE c) l d = one_store (record_store_in c l d)
store_after (CHECKPOINT c) l d = one_store (home_store_in c l)
store_after CUT l d = no_store
store_after RECOVER l d = one_store (recover_store_in l.left l)
store_after (RETIRE c) l d = one_store (master_store_in c l d)

-- the disk after a command carried out: that store made
unfoldable pub disk_after : Command → Ledger → Bytes → Bytes
disk_after k l d = with_store (store_after k l d) d

-- ---- memory
-- 'CLOSE copies the transaction's block images, in the order taken, to the first of its core's copies onward': from copy i on
unfoldable pub copies_stored : ℕ → ℕ → List Bytes → Bytes → Bytes
copies_stored c i [] m = m
copies_stored c i (x ∷ xs) m = copies_stored c (suc i) xs (store m (copy_block c i) x)

-- memory after a command carried out: WRITE leaves there the block with all writes since the card came up; 'FORMAT and CUT zero it.'
unfoldable pub memory_after : Command → Ledger → Bytes → Bytes
memory_after (FORMAT c b j) l m = zero_memory
memory_after (WRITE task c b o v) l m = store m b (replaced o 4 (image_now l b) v)
memory_after (CLOSE c) l m = copies_stored c 0 (map (image_now l) (l.book.entry (new_name c (l.book.next c))).blocks) m
memory_after (STORE c) l m = m
memory_after (CHECKPOINT c) l m = m
memory_after CUT l m = zero_memory
memory_after RECOVER l m = m
memory_after (RETIRE c) l m = m

-- ---- the conditions of the refusals, in the order of section 'Refusals'
-- '20 blank', '22 down', '5 core not below C'
abbrev pub not_up_for : ℕ → Ledger → List (Bool × ℕ) → List (Bool × ℕ)
not_up_for c l rest = (is_blank l.phase, 20) ∷ (is_down l.phase, 22) ∷ (leb l.shape.cores c, 5) ∷ rest

unfoldable pub format_refusals : ℕ → ℕ → ℕ → Ledger → List (Bool × ℕ)
format_refusals c b j l = (not (is_blank l.phase), 21) ∷ (not (in_range c b j), 4) ∷ []

-- the blocks that core c's transaction in the book k, running or about to open, has taken in the book later
unfoldable pub writer_blocks : ℕ → Book → Book → List ℕ
writer_blocks c k later = (later.entry (new_name c (k.next c))).blocks

-- paper 02, (h): '36, the report task's block limit': by a WRITE, which makes the book k the book after, its transaction gets one block
-- more, and then has more than the limit
unfoldable pub limit_passes : ℕ → ℕ → Book → Book → Bool
limit_passes limit c k after = ltb (length (writer_blocks c k k)) (length (writer_blocks c k after)) && ltb limit (length (writer_blocks c k after))

-- '26 journal full: blocks of the records of closed unretired transactions, stored yet or not, plus 2 and the blocks of the
-- running one, would pass J.'
unfoldable pub journal_passes : ℕ → Shape → Book → Book → Bool
journal_passes c s k after = ltb s.journal (record_blocks k c (k.oldest c) (k.next c - k.oldest c) + 2 + length (writer_blocks c k after))

-- '27 a number above 4,000,000,000 would open'
unfoldable pub number_passes : ℕ → Book → Bool
number_passes c k = not (has_running k c) && ltb max_number (k.next c)

-- paper 02, (d): 'Refusal 24 can no longer occur'; a list may pass 12 names. (h): '36 .. comes directly after 25', with the task's limit
unfoldable pub write_refusals : ℕ → ℕ → ℕ → ℕ → Bytes → Ledger → List (Bool × ℕ)
write_refusals limit c b o v l =
    let k = l.book in
    let after = write_book c b o v k in
    not_up_for c l
    ((leb l.shape.blocks b, 6)
    ∷ (ltb max_offset o, 7)
    ∷ (ltb max_taken (length (writer_blocks c k after)), 25)
    ∷ (limit_passes limit c k after, 36)
    ∷ (journal_passes c l.shape k after, 26)
    ∷ (number_passes c k, 27)
    ∷ [])

unfoldable pub close_refusals : ℕ → Ledger → List (Bool × ℕ)
close_refusals c l = not_up_for c l ((not (has_running l.book c), 28) ∷ (has_closed l.book c, 29) ∷ [])

unfoldable pub store_refusals : ℕ → Ledger → List (Bool × ℕ)
store_refusals c l = not_up_for c l ((not (has_closed l.book c), 30) ∷ [])

-- '33 CHECKPOINT, a lower-stamped unretired transaction shares a block (both took it)'
unfoldable pub shares_lower_in : Ledger → Name → Bool
shares_lower_in l t =
    let k = l.book in
    let is_lower : Name → Bool = λ u. is_closed (k.entry u).stage && not (is_retired (k.entry u).stage) && ltb (l.stamp u) (l.stamp t) in
    any (λ (u : Name). is_lower u && share (k.entry t).blocks (k.entry u).blocks) k.opened

-- what CHECKPOINT and RETIRE both ask, then each its own
abbrev pub oldest_refusals : ℕ → Ledger → List (Bool × ℕ) → List (Bool × ℕ)
oldest_refusals c l rest =
    let k = l.book in
    let t = new_name c (k.oldest c) in
    not_up_for c l
    ((not (has_committed k c), 31)
    ∷ (not (any (same_name t) (valid_in k)), 32)
    ∷ (shares_lower_in l t, 33)
    ∷ rest)

-- fewer CHECKPOINTs have counted for the core's oldest one than it took blocks
abbrev pub home_left : ℕ → Book → Bool
home_left c k = let e = k.entry (new_name c (k.oldest c)) in ltb (stage_count e.stage) (length e.blocks)

-- paper 02, (g): '35, all home stores done'
unfoldable pub checkpoint_refusals : ℕ → Ledger → List (Bool × ℕ)
checkpoint_refusals c l = oldest_refusals c l ((not (home_left c l.book), 35) ∷ [])

-- '34, home stores outstanding'
unfoldable pub retire_refusals : ℕ → Ledger → List (Bool × ℕ)
retire_refusals c l = oldest_refusals c l ((home_left c l.book, 34) ∷ [])

-- 'On such a tape no RECOVER meets 8.'
unfoldable pub refusals_of : Command → Ledger → List (Bool × ℕ)
refusals_of (FORMAT c b j) l = format_refusals c b j l
refusals_of (WRITE task c b o v) l = write_refusals (block_limit task) c b o v l
refusals_of (CLOSE c) l = close_refusals c l
refusals_of (STORE c) l = store_refusals c l
refusals_of (CHECKPOINT c) l = checkpoint_refusals c l
refusals_of CUT l = (is_blank l.phase, 20) ∷ []
refusals_of RECOVER l = (is_blank l.phase, 20) ∷ (is_up l.phase, 23) ∷ []
refusals_of (RETIRE c) l = retire_refusals c l

-- demand 1: every answer is the first of its conditions that holds: '2 unknown command byte', '3 operands end early' and those
-- of the ledger
unfoldable pub answer_of : Read → Ledger → ℕ
answer_of (whole k) l = refusal (refusals_of k l)
answer_of unknown l = 2
answer_of early l = 3

-- ---- reading a block: its conditions, and what is handed back
unfoldable pub read_refusals : ℕ → Ledger → List (Bool × ℕ)
read_refusals b l = (is_blank l.phase, 20) ∷ (is_down l.phase, 22) ∷ (leb l.shape.blocks b, 6) ∷ []

-- a block below B has the area as the card came up with all writes since; 'A refused reading hands back a part of no bytes'
unfoldable pub read_now : ℕ → Ledger → Bytes
read_now b l = cond (eqb (refusal (read_refusals b l)) 0) (image_now l b) []
