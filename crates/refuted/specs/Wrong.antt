-- Cards that are the model's save in one rule: those of paper 01's section 'Where a card goes astray', then others, and wrong
-- readings.
use Rattle.std.specs.Prelude.{ℕ, suc, ◌+◌, ◌*◌, ◌-◌, max, min, List, [], ◌∷◌, map, Bool, cond, not, ◌&&◌, ◌||◌, length, get_or, replicate, eqb, leb, ltb}
use Rattle.model.specs.Lists.{below, select, any}
use Rattle.model.specs.Bytes.{Bytes, block_at, replaced}
use Rattle.model.specs.Shape.{home_block, journal_block}
use Rattle.model.specs.Card.{taken, stamped, with_block, new_holder, with_holder, record_size, fresh_card, shape_of, tail_of, core_of, holder_of, is_down, is_held, holder_name}
use Rattle.model.specs.Layout.{master_block, new_tag, descriptor_block}
use Rattle.model.specs.Journal.{journal_at, blocks_of}
use Rattle.model.specs.Shrink.{strike}
use Rattle.model.specs.Valid.{in_sequence, names_met, blocks_held, newest}
use Rattle.model.specs.Command.{World, Outcome, storing, unless}
use Rattle.model.specs.Write.{writer, writer_name, rule_for, takes_block, names_holder, is_named_back, writer_after, journal_full}
use Rattle.model.specs.Commit.{copy_block, closed_number, next_stored, next_position}
use Rattle.model.specs.Checkpoint.{committed_now, committed_of, oldest, share, checkpoint_conditions, stored_master}
use Rattle.model.specs.Recovery.{shape_on, tail_on, layout_on, committed_on, valid_on, recover_conditions, place_of, image_found, recovered_to, recover_step}
use Rattle.model.specs.Tape.{Step, CHECKPOINT, CLOSE, CUT, Command, FORMAT, RECOVER, RETIRE, STORE, WRITE}
use Rattle.model.specs.Step.{step}
use Rattle.model.specs.Reading.{read_number, Reader, read_block}
use Rattle.model.specs.Limits.{max_number}
use Rattle.model.specs.declared.Phase.TheVariants.{Up}
use Rattle.std.specs.Prelude.{Option, Some, None}
use Rattle.model.specs.declared.Tail.{Tail}
use Rattle.model.specs.declared.Name.{Name}
use Rattle.model.specs.declared.Transaction.{Transaction}
use Rattle.model.specs.declared.Core.{Core}
use Rattle.model.specs.declared.Card.{Card}
use Rattle.model.specs.declared.CommitLayout.TheVariants.{Numbers}
use Rattle.model.specs.declared.Committed.{Committed}
use Rattle.refuted.specs.Parts.{other_write, other_close, other_store, other_checkpoint, other_retire, other_cut, other_recover, refusing, write_asking, oldest_asking, patched, with_memory, with_card, put_closes, on_running, on_closed, store_by, recover_by, own_left, own_image, own_tail, recover_set, recover_tail}

-- ---- 'Where a card goes astray'
-- 'No name for a holder already committed': what the writer names stays as it was, of card, core and block where a test holds
abbrev with_names_of : Transaction → Transaction → Transaction
with_names_of t u = record { live = u.live; stamp = u.stamp; count = u.count; blocks = u.blocks; highest = t.highest }

abbrev is_closed_now : Card → Name → Bool
is_closed_now x n = let k = core_of x n.core in k.closed.live && eqb (closed_number k) n.number

abbrev pub unnamed_where : (Card → ℕ → ℕ → Bool) → Step World
unnamed_where test =
    other_write step (λ task c b o v w.
    let x = w.card in
    let done = step (WRITE task c b o v) w in
    cond (test x c b) (patched (on_running c (with_names_of (writer x c))) done) done)

abbrev pub no_name_for_committed : Step World
no_name_for_committed =
    unnamed_where (λ x c b.
    let r = rule_for x c b in
    takes_block r && names_holder r && not (is_closed_now x (holder_name (holder_of x b))))

-- 'Trusting that a block cannot be in both of two tied transactions .. The stamp decides.': the last in order of core
-- and number decides
abbrev unstamped : Committed → Committed
unstamped e = record { core = e.core; number = e.number; position = e.position; count = e.count; stamp = 0 }

abbrev pub newest_by_order : Step World
newest_by_order = recover_by own_left (λ (d : Bytes) (b : ℕ). image_found d b (newest (shape_on d) d b None (map unstamped (valid_on d)))) own_tail

-- 'Tails emptied core by core': one master store each, in the places after the last home block's
abbrev by_core : List ℕ → World → Outcome World
by_core [] w =
    let d = w.disk in
    let s = shape_on d in
    let i = w.card.recovered - 64 in
    let tails : ℕ → Tail = λ c. cond (eqb c i) (own_tail d c) (tail_on d c) in
    storing w (cond (eqb (i + 1) s.cores) (fresh_card Up s (map tails (below 8))) (recovered_to w.card (65 + i))) 0 (master_block Numbers s tails)
by_core (b ∷ bs) w = recover_step in_sequence (layout_on w.disk) Numbers (b ∷ bs) w

abbrev pub tails_core_by_core : Step World
tails_core_by_core = other_recover step (λ w. unless (recover_conditions w) w (by_core (own_left w) w))

-- 'A number used again': recovery leaves the tail numbers, or begins them at 1 again
abbrev pub tail_unchanged : Step World
tail_unchanged = recover_tail (λ (t n : ℕ). t)

abbrev pub numbers_from_one : Step World
numbers_from_one = recover_tail (λ (t n : ℕ). 1)

-- ---- 'Cards that look busy'
-- 'one whose RECOVER reports up before its home stores'
abbrev pub up_before_home : Step World
up_before_home = recover_by (λ (w : World). []) own_image own_tail

-- 'one that stores the first record and afterwards only counts', of each core
abbrev pub first_record_only : Step World
first_record_only =
    other_store step (λ c w.
    let o = step (STORE c) w in
    cond (leb (closed_number (core_of w.card c)) 1) o
    (record { answer = o.answer; world = record { card = o.world.card; disk = w.disk; memory = o.world.memory }; stores = o.stores }))

-- 'one printing an invented store count': CLOSE counts one
abbrev pub invented_count : Step World
invented_count =
    other_close step (λ c w.
    let o = step (CLOSE c) w in
    record { answer = o.answer; world = o.world; stores = 1 })

-- 'one whose commands change nothing', after FORMAT; each store is counted
abbrev counting : ℕ → World → Outcome World
counting n w = record { answer = 0; world = w; stores = n }

abbrev pub nothing_changes : Step World
nothing_changes (FORMAT c b j) w = step (FORMAT c b j) w
nothing_changes (WRITE task c b o v) w = counting 0 w
nothing_changes (CLOSE c) w = counting 0 w
nothing_changes (STORE c) w = counting 1 w
nothing_changes (CHECKPOINT c) w = counting 1 w
nothing_changes CUT w = counting 0 w
nothing_changes RECOVER w = counting 1 w
nothing_changes (RETIRE c) w = counting 1 w

-- 'one that recovers a blank area always'
abbrev pub blank_always : Step World
blank_always = recover_by own_left (λ (d : Bytes) (b : ℕ). replicate 128 0) own_tail

-- 'one whose STORE always says 30 or CHECKPOINT always 32'
abbrev pub store_always30 : Step World
store_always30 = refusing 4 30

abbrev pub checkpoint_always32 : Step World
checkpoint_always32 = refusing 5 32

-- ---- tails and stamps after recovery
-- 'a tail number two above the last committed one read in its journal': one above
abbrev pub tail_one_above : Step World
tail_one_above = recover_tail (λ (t n : ℕ). min (t + max n 1) (suc max_number))

-- '(with none, one above the old tail)': the old tail
abbrev pub tail_kept : Step World
tail_kept = recover_tail (λ (t n : ℕ). cond (eqb n 0) t (min (t + (n + 1)) (suc max_number)))

-- 'at most 4,000,000,001': no bound
abbrev pub cap_missing : Step World
cap_missing = recover_tail (λ (t n : ℕ). t + (n + 1))

-- 'stamps start again at 1': they go on
abbrev pub stamps_go_on : Step World
stamps_go_on =
    let goes_on : Command → World → Outcome World = λ k w. patched (put_closes w.card.closes) (step k w) in
    other_cut (other_recover step (goes_on RECOVER)) (goes_on CUT)

-- ---- recovery
-- 'The valid set is the largest set ..': one whose names are all committed counts, whatever these name
abbrev pub validity_one_deep : Step World
validity_one_deep = recover_set (λ (d : Bytes). strike (names_met in_sequence (layout_on d) (shape_on d) d (tail_on d)) (committed_on d))

-- all committed ones count
abbrev pub all_committed_valid : Step World
all_committed_valid = recover_set committed_on

-- 'from the lowest block to the highest': from the highest
abbrev reversed : List ℕ → List ℕ
reversed bs = map (λ (i : ℕ). get_or bs (length bs - suc i) 0) (below (length bs))

abbrev pub highest_first : Step World
highest_first =
    recover_by (λ (w : World).
    let n = w.card.recovered in
    reversed (select (λ (b : ℕ). eqb n 0 || ltb (suc b) n) (blocks_held (shape_on w.disk) w.disk (valid_on w.disk))))
    own_image own_tail

-- 'wherever the flag is 1, the image read has the mark as its first four bytes': the flag is not looked at
abbrev bare_image : Bytes → ℕ → Option Committed → Bytes
bare_image d b None = block_at d (home_block b)
bare_image d b (Some e) = let s = shape_on d in journal_at s d e.core (e.position + (place_of b (blocks_of s d e) + 1))

abbrev pub flag_ignored : Step World
flag_ignored = recover_by own_left (λ (d : Bytes) (b : ℕ). bare_image d b (newest (shape_on d) d b None (valid_on d))) own_tail

-- CUT: 'a recovery under way starts over': it goes on where it was
abbrev pub cut_keeps_place : Step World
cut_keeps_place = other_cut step (λ w. patched (λ x. recovered_to x w.card.recovered) (step CUT w))

-- CUT: 'memory lost': it stays
abbrev pub cut_keeps_memory : Step World
cut_keeps_memory = other_cut step (λ w. with_memory w.memory (step CUT w))

-- ---- WRITE
-- 'U keeps it': T takes a running holder's block too
abbrev pub writer_takes_running : Step World
writer_takes_running =
    other_write step (λ task c b o v w.
    let done = step (WRITE task c b o v) w in
    cond (is_named_back (rule_for w.card c b))
    (patched (λ x. with_holder (on_running c (λ t. with_block t b) x) b (new_holder (writer_name x c))) done)
    done)

-- 'T's list names U and U's list names T': only T's, only U's
abbrev pub only_writer_names : Step World
only_writer_names =
    other_write step (λ task c b o v w.
    let x = w.card in
    let u = (holder_name (holder_of x b)).core in
    let done = step (WRITE task c b o v) w in
    cond (is_named_back (rule_for x c b)) (patched (on_running u (with_names_of (core_of x u).running)) done) done)

abbrev pub only_holder_names : Step World
only_holder_names = unnamed_where (λ x c b. is_named_back (rule_for x c b))

-- 'loaded from home when taken without a holder': memory is taken as it stands
abbrev pub not_loaded : Step World
not_loaded =
    other_write step (λ task c b o v w.
    let done = step (WRITE task c b o v) w in
    cond (eqb done.answer 0) (with_memory (replaced (128 * b + o) 4 w.memory v) done) done)

-- 26 is not asked of a WRITE that opens a transaction and takes no block
abbrev pub no26_on_open : Step World
no26_on_open = write_asking 26 (λ c b w. takes_block (rule_for w.card c b) && journal_full w.card c b)

-- 26 'stored yet or not': a closed one counts from its first store on
abbrev pub only26_stored : Step World
only26_stored =
    write_asking 26 (λ c b w.
    let x = w.card in
    let k = core_of x c in
    let closed_one = cond (k.closed.live && ltb 0 k.stored) (record_size k.closed) 0 in
    ltb (shape_of x).journal (k.used + closed_one + record_size (writer_after x c b)))

-- ---- CLOSE
-- 'CLOSE .. gives it a stamp': the stamp is given when the transaction opens
abbrev pub stamp_at_open : Step World
stamp_at_open =
    other_write
    (other_close step (λ c w.
    let t = (core_of w.card c).running in
    patched (λ x. put_closes w.card.closes (on_closed c (λ u. stamped u t.stamp) x)) (step (CLOSE c) w)))
    (λ task c b o v w.
    let n = w.card.closes in
    let done = step (WRITE task c b o v) w in
    cond (core_of w.card c).running.live done (patched (λ x. put_closes (n + 1) (on_running c (λ t. stamped t (n + 1)) x)) done))

-- .. or when its commit is stored
abbrev pub stamp_at_commit : Step World
stamp_at_commit =
    other_close
    (other_store step (λ c w.
    let x = w.card in
    let n = x.closes in
    let is_commit = ltb (length (taken (core_of x c).closed)) (core_of x c).stored in
    step (STORE c) (cond is_commit (with_card w (put_closes (n + 1) (on_closed c (λ t. stamped t (n + 1)) x))) w)))
    (λ c w. patched (put_closes w.card.closes) (step (CLOSE c) w))

-- ---- STORE
abbrev pub right_place : Card → ℕ → ℕ
right_place x c = journal_block (shape_of x) c (next_position x c)

-- 'A data block beginning with the mark has those four bytes zeroed in the journal and flag 1': it is stored as it is
abbrev pub no_escape : Step World
no_escape =
    store_by right_place (λ (c : ℕ) (k : Core) (m : Bytes).
    cond (eqb k.stored 0) (descriptor_block (closed_number k) (map (λ (b : ℕ). new_tag b 0) (taken k.closed)))
    (cond (leb k.stored (length (taken k.closed))) (block_at m (copy_block c (k.stored - 1))) (next_stored c k m)))

-- 'CLOSE copies the transaction's block images': data is stored from the images as they are by then
abbrev pub stores_images : Step World
stores_images =
    store_by right_place (λ (c : ℕ) (k : Core) (m : Bytes).
    let n = k.stored in
    cond (leb 1 n && leb n (length (taken k.closed))) (block_at m (get_or (taken k.closed) (n - 1) 0)) (next_stored c k m))

-- 'Positions count round modulo J': the blocks of a record follow its first one
abbrev pub no_wrap : Step World
no_wrap =
    store_by (λ (x : Card) (c : ℕ). journal_block (shape_of x) c ((tail_of x c).position + (core_of x c).used) + (core_of x c).stored) next_stored

-- ---- CHECKPOINT
-- 'stores its images home in the order taken, then the master': the master at once
abbrev pub retires_at_once : Step World
retires_at_once =
    other_checkpoint step (λ c w. unless (checkpoint_conditions in_sequence c w) w (stored_master c (oldest (committed_of w c)) w))

-- 'A block's home image comes from the journal, never from later memory.'
abbrev pub home_from_memory : Step World
home_from_memory =
    other_checkpoint step (λ c w.
    let o = step (CHECKPOINT c) w in
    let e = oldest (committed_of w c) in
    let k = core_of w.card c in
    let b = get_or (blocks_of (shape_of w.card) w.disk e) k.homed 0 in
    cond (eqb o.answer 0) (storing w o.world.card (home_block b) (block_at w.memory b)) o)

-- 'until that one is retired': its blocks stay held
abbrev pub holder_stays : Step World
holder_stays =
    other_retire step (λ c w.
    patched (λ x. record { phase = x.phase; shape = x.shape; closes = x.closes; recovered = x.recovered; tails = x.tails; cores = x.cores; holders = w.card.holders })
    (step (RETIRE c) w))

-- ---- refusals
-- 'A refusal .. changes no byte of any lent buffer': while the card is down, memory is overwritten
abbrev pub refusal_overwrites : Step World
refusal_overwrites k w =
    let o = step k w in
    cond (is_down w.card.phase && not (eqb o.answer 0)) (with_memory (replaced 0 4 w.memory (1 ∷ 1 ∷ 1 ∷ 1 ∷ [])) o) o

-- ---- reading: 'a part of memory while a transaction still in a journal, closed or running, holds the block, otherwise a part of
-- the disk'
-- always a part of the disk, always one of memory, and the two exchanged
abbrev home_bytes : ℕ → World → Bytes
home_bytes b w = cond (eqb (read_number b w) 0) (block_at w.disk (home_block b)) []

abbrev memory_bytes : ℕ → World → Bytes
memory_bytes b w = cond (eqb (read_number b w) 0) (block_at w.memory b) []

abbrev handing_back : (ℕ → World → Bytes) → Reader
handing_back bytes = record { number = read_number; bytes = bytes }

abbrev pub from_home : Reader
from_home = handing_back home_bytes

abbrev pub from_memory : Reader
from_memory = handing_back memory_bytes

abbrev pub exchanged : Reader
exchanged = handing_back (λ (b : ℕ) (w : World). cond (is_held (holder_of w.card b)) (home_bytes b w) (memory_bytes b w))

-- 'A refused reading hands back a part of no bytes': a card that is down hands back a part of the disk
abbrev pub hands_while_down : Reader
hands_while_down = handing_back (λ (b : ℕ) (w : World). cond (is_down w.card.phase) (block_at w.disk (home_block b)) (read_block b w))

-- '20 blank', '22 down', '6 block not below B': no reading is refused
abbrev pub never_refuses : Reader
never_refuses = record { number = λ (b : ℕ) (w : World). 0; bytes = read_block }

-- ---- a card that is not wrong
-- '33 .. a lower-stamped unretired transaction': only committed ones are looked at. No run tells it from the model's.
abbrev pub shares_committed : World → Committed → Bool
shares_committed w e =
    let s = shape_of w.card in
    let bs = blocks_of s w.disk e in
    any (λ (f : Committed). ltb f.stamp e.stamp && share bs (blocks_of s w.disk f)) (committed_now w)

abbrev pub only_committed33 : Step World
only_committed33 = oldest_asking step 33 (λ c w. shares_committed w (oldest (committed_of w c)))
