-- The claims about whole tapes. Each is a predicate of a card, a function of tape, offset and world, so that it can be proved of
-- ours and refuted of others. They fix answers, stores with their bytes and count, memory, journals, the course of recovery,
-- what reading gives, and the home area. Of the card's state they fix whether it is blank, up or down, and that a refusal
-- changes nothing; all of it is fixed, one command at a time, by `DecidesEach`.
use Rattle.std.specs.Prelude.{ℕ, ◌<◌, ◌≤◌, ◌≡◌, ◌≢◌, true, false, length, ltb}
use mathlib.Core.List.{List, [], ◌∷◌, map, Memᴰ}
use Rattle.model.specs.Limits.{disk_size, memory_size}
use Rattle.model.specs.Lists.{below, all}
use Rattle.model.specs.Bytes.{Bytes}
use Rattle.model.specs.Valid.{Order}
use Rattle.model.specs.Shape.{in_range}
use Rattle.model.specs.Card.{new_name, is_blank, blank_card, down_card}
use Rattle.model.specs.Journal.{journal, name_of, blocks_of, names_of, image_of}
use Rattle.model.specs.Shrink.{Within, DependsOn}
use Rattle.model.specs.Command.{Outcome, count_of, refusal, refused_with, World}
use Rattle.model.specs.Tape.{Command, RECOVER, whole, TapeStep, Point, run, heard}
use Rattle.model.specs.Format.{formatted_disk}
use Rattle.model.specs.Recovery.{shape_on, tail_on, layout_on, home_area}
use Rattle.model.specs.Reading.{Reader, read_number}
use Rattle.model.specs.declared.CommitLayout.{CommitLayout}
use Rattle.model.specs.declared.Committed.{Committed}
use Rattle.model.specs.declared.Shape.{Shape}
use Rattle.model.specs.declared.Name.{Name}
use Rattle.crash.specs.Book.{Book, required_in, committed_in, kept}
use Rattle.crash.specs.Service.{Service, empty_service, fed, book_area}
use Rattle.crash.specs.Ledger.{Ledger, Stored, fresh_ledger, blank_ledger, cut_ledger, entered, stored_since, answer_of, disk_after, memory_after, store_after, read_refusals, read_now}

abbrev pub IsBytes : Bytes → Type 0
IsBytes s = all (λ (x : ℕ). ltb x 256) s ≡ true

-- ---- the runs that the claims are about
-- what holds of every run of a card from every start that fits, over any world
abbrev pub OnRuns : {S W : Type 0} → (S → Type 0) → (S → W) → TapeStep W → (S → List (Point W) → Type 0) → Type 0
OnRuns {S} Fits start f Holds = (tape : Bytes) → IsBytes tape → (s : S) → Fits s → Holds s (run f tape (start s))

-- three starts: a blank card over disk and memory; a card that is down over a disk as FORMAT leaves it, and over one as it left it before
-- request (d), with 0 in bytes 8 to 11 of the master, and memory
pub data Start : Type 0 where
  from_blank : Bytes → Bytes → Start
  from_down : CommitLayout → Shape → Bytes → Start

unfoldable pub start_world : Start → World
start_world (from_blank d m) = record { card = blank_card; disk = d; memory = m }
start_world (from_down y s m) = record { card = down_card; disk = formatted_disk y s; memory = m }

-- 'over slices of the stated lengths'; a shape that FORMAT takes
abbrev pub Stated : Start → Type 0
Stated (from_blank d m) = (length d ≡ disk_size) × (length m ≡ memory_size)
Stated (from_down y s m) = (in_range s.cores s.blocks s.journal ≡ true) × (length m ≡ memory_size)

-- 'and any content'
pub record StartFits (s : Start) : Type 0 where
  pub stated : Stated s
  pub disk : IsBytes (start_world s).disk
  pub memory : IsBytes (start_world s).memory

-- the service book and the ledger there; a card down over a formatted disk is as after a cut
unfoldable pub start_service : Order → Start → Service
start_service o (from_blank d m) = empty_service o 0
start_service o (from_down y s m) = empty_service o s.blocks

unfoldable pub start_ledger : Order → Start → Ledger
start_ledger o (from_blank d m) = blank_ledger o
start_ledger o (from_down y s m) = cut_ledger (fresh_ledger o s [] (λ (c : ℕ). 1))

-- ---- demand 3
-- 'every RECOVER that is carried out and leaves the card up (reading met 22 before it and no longer does)'
pub record ComesUp (p : Point World) : Type 0 where
  pub is_recover : p.read ≡ whole RECOVER
  pub is_done : p.outcome.answer ≡ 0
  pub was_down : read_number 0 p.before ≡ 22
  pub is_up : read_number 0 p.outcome.world ≢ 22

unfoldable pub fed_point : Point World → Service → Service
fed_point p v = heard fed p.read p.outcome.answer v

-- at every point of a run: where the card comes up, the home area is the book's area
abbrev pub AreaKept : Service → List (Point World) → Type 0
AreaKept v [] = Unit {0}
AreaKept v (p ∷ ps) =
    (ComesUp p → home_area v.blocks p.outcome.world ≡ book_area (fed_point p v)) × AreaKept (fed_point p v) ps

-- Demand 3. 'What a cut brings back is claimed for tapes run under one of the two rules throughout.' Since request (d) it is shown for
-- `in_sequence` alone
abbrev pub Claim : Order → TapeStep World → Type 0
Claim o f = OnRuns StartFits start_world f (λ (s : Start) (ps : List (Point World)). AreaKept (start_service o s) ps)

-- ---- the ledger: demands 1 and 2, and the course of recovery
unfoldable pub entered_point : Point World → Ledger → Ledger
entered_point p l = heard entered p.read p.outcome.answer l

-- a record as it is read
unfoldable pub read_as : CommitLayout → Shape → Bytes → Committed → Stored
read_as y s d e =
    record { name = name_of e; blocks = blocks_of s d e; images = map (image_of s d e) (below e.count); stamp = e.stamp; names = names_of y s d e }

-- demand 2: a journal is read as exactly the transactions stored whole since its tail, with their highest names. (Where the disk is of the
-- older layout, none is stored yet.)
pub record JournalsRead (l : Ledger) (d : Bytes) : Type 0 where
  pub shape : shape_on d ≡ l.shape
  pub tails : (c : ℕ) → c < l.shape.cores → (tail_on d c).number ≡ l.book.oldest c
  pub records : (c : ℕ) → c < l.shape.cores → map (read_as (layout_on d) l.shape d) (journal (layout_on d) l.shape d c (tail_on d c) l.shape.journal) ≡ stored_since l c

-- what holds before every command and after the last; so the card comes up 'with the one master store that RECOVER's rule above
-- puts next after the last home store'
pub record Between (l : Ledger) (w : World) : Type 0 where
  pub phase : w.card.phase ≡ l.phase
  pub journals : is_blank w.card.phase ≡ false → JournalsRead l w.disk

-- a command carried out: what it has stored, with the count, and what it has left in memory
pub record DoneAs (k : Command) (l : Ledger) (w : World) (o : Outcome World) : Type 0 where
  pub disk : o.world.disk ≡ disk_after k l w.disk
  pub memory : o.world.memory ≡ memory_after k l w.memory
  pub stores : o.stores ≡ count_of (store_after k l w.disk)

-- a command of a run in the world w
pub record PointKept (l : Ledger) (w : World) (p : Point World) : Type 0 where
  pub between : Between l w
  pub answer : p.outcome.answer ≡ answer_of p.read l
  -- 'A refusal answers its number alone .. and changes no byte of any lent buffer and nothing in the card's state.'
  pub refused : p.outcome.answer ≢ 0 → p.outcome ≡ refused_with p.outcome.answer w
  pub done : (k : Command) → p.read ≡ whole k → p.outcome.answer ≡ 0 → DoneAs k l w p.outcome

abbrev pub LedgerKept : Ledger → World → List (Point World) → Type 0
LedgerKept l w [] = Between l w
LedgerKept l w (p ∷ ps) = PointKept l w p × LedgerKept (entered_point p l) p.outcome.world ps

-- Demands 1 and 2, and recovery.
abbrev pub Demands : Order → TapeStep World → Type 0
Demands o f = OnRuns StartFits start_world f (λ (s : Start) (ps : List (Point World)). LedgerKept (start_ledger o s) (start_world s) ps)

-- ---- reading: 'The library also reads a block of a card that is up.'
-- of every block the number and the bytes are the ledger's
abbrev pub ReadsNow : Reader → Ledger → World → Type 0
ReadsNow r l w = (b : ℕ) → (r.number b w ≡ refusal (read_refusals b l)) × (r.bytes b w ≡ read_now b l)

-- before every command and after the last
abbrev pub ReadingsKept : Reader → Ledger → World → List (Point World) → Type 0
ReadingsKept r l w [] = ReadsNow r l w
ReadingsKept r l w (p ∷ ps) = ReadsNow r l w × ReadingsKept r (entered_point p l) p.outcome.world ps

abbrev pub Readings : Order → Reader → TapeStep World → Type 0
Readings o r f = OnRuns StartFits start_world f (λ (s : Start) (ps : List (Point World)). ReadingsKept r (start_ledger o s) (start_world s) ps)

-- ---- 'Kept is the largest set .. in which each has all that it depends on there: every other such set lies in it.'
abbrev pub Requires : Book → Name → Name → Type 0
Requires k t u = Memᴰ u (required_in k t)

-- a set of the book's committed transactions in which each has all that it depends on
pub record HasAll (k : Book) (ts : List Name) : Type 0 where
  pub committed_ones : Within ts (committed_in k)
  pub dependencies : (t u : Name) → Memᴰ t ts → DependsOn (Requires k) t u → Memᴰ u ts

pub record LargestKept (k : Book) : Type 0 where
  pub is_one : HasAll k (kept k)
  pub has_others : (ts : List Name) → HasAll k ts → Within ts (kept k)

-- ---- paper 02, (c): 'what is kept is a beginning of each core's run'
-- with a transaction every earlier one of its core, from these numbers on
abbrev pub BeginsWith : (ℕ → ℕ) → Book → Type 0
BeginsWith first k = (c n m : ℕ) → first c ≤ n → n ≤ m → Memᴰ (new_name c m) (kept k) → Memᴰ (new_name c n) (kept k)

-- of the service book, whose numbers begin with 1, at every point of a run
abbrev pub KeptBegins : Service → List (Point World) → Type 0
KeptBegins v [] = BeginsWith (λ (c : ℕ). 1) v.book
KeptBegins v (p ∷ ps) = BeginsWith (λ (c : ℕ). 1) v.book × KeptBegins (fed_point p v) ps
