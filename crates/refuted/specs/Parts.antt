-- The model's card with a command, or a part of one, replaced. With the model's own parts each is the model's card
-- (`proofs/Parts.antt`).
use Rattle.std.specs.Prelude.{ℕ, ◌+◌, List, [], ◌∷◌, map, Bool, false, cond, not, ◌&&◌, length, eqb, ltb, leb}
use Rattle.model.specs.Lists.{below, select}
use Rattle.model.specs.Bytes.{Bytes}
use Rattle.model.specs.Shape.{home_block, new_shape}
use Rattle.model.specs.Card.{new_tail, new_holder, fresh_card, shape_of, tail_of, core_of, holder_of, with_block, with_core, with_holder, with_running, holder_name}
use Rattle.model.specs.Layout.{master_block}
use Rattle.model.specs.Journal.{journal, name_of}
use Rattle.model.specs.Valid.{Order, in_sequence, is_in, blocks_held, newest}
use Rattle.model.specs.Command.{World, Outcome, wrong_length, unstored, storing, refused_with, unless}
use Rattle.model.specs.Format.{format_conditions, formatted_disk, formatted}
use Rattle.model.specs.Write.{writer, writer_name, rule_for, takes_block, names_holder, is_named_back, write_conditions, written_memory}
use Rattle.model.specs.Commit.{core_stored, store_conditions}
use Rattle.model.specs.Checkpoint.{committed_now, committed_of, oldest, retire_conditions, retired_card}
use Rattle.model.specs.Recovery.{shape_on, tail_on, layout_on, committed_on, recover_conditions_by, recover_conditions, blocks_left, image_found, newest_image, recovered_to, emptied_tail, recovered_by}
use Rattle.model.specs.Tape.{Task, lamp_task, report_task, block_limit, Command, FORMAT, WRITE, CLOSE, STORE, CHECKPOINT, CUT, RECOVER, RETIRE, Step, TapeStep, read_at, command_at}
use Rattle.model.specs.Step.{conditions_of, done_by, step, step_by, conditions_on, done_on}
use Rattle.model.specs.declared.Phase.TheVariants.{Up}
use Rattle.std.specs.Prelude.{None}
use Rattle.model.specs.declared.Shape.{Shape}
use Rattle.model.specs.declared.Tail.{Tail}
use Rattle.model.specs.declared.Name.{Name}
use Rattle.model.specs.declared.Transaction.{Transaction}
use Rattle.model.specs.declared.Core.{Core}
use Rattle.model.specs.declared.Card.{Card}
use Rattle.model.specs.declared.CommitLayout.{CommitLayout}
use Rattle.model.specs.declared.CommitLayout.TheVariants.{Lists, Numbers}
use Rattle.model.specs.declared.Committed.{Committed}
use Rattle.model.specs.declared.Rule.{Rule}

-- a card as a tape meets it: 1, 2 and 3 are asked as in the model
abbrev pub on_tape : Step World → TapeStep World
on_tape f = command_at wrong_length f

-- ---- the card f with another command: a FORMAT, a WRITE and so on
abbrev pub other_format : Step World → (ℕ → ℕ → ℕ → World → Outcome World) → Step World
other_format f g (FORMAT c b j) w = g c b j w
other_format f g (WRITE task c b o v) w = f (WRITE task c b o v) w
other_format f g (CLOSE c) w = f (CLOSE c) w
other_format f g (STORE c) w = f (STORE c) w
other_format f g (CHECKPOINT c) w = f (CHECKPOINT c) w
other_format f g CUT w = f CUT w
other_format f g RECOVER w = f RECOVER w
other_format f g (RETIRE c) w = f (RETIRE c) w

abbrev pub other_write : Step World → (Task → ℕ → ℕ → ℕ → Bytes → World → Outcome World) → Step World
other_write f g (FORMAT c b j) w = f (FORMAT c b j) w
other_write f g (WRITE task c b o v) w = g task c b o v w
other_write f g (CLOSE c) w = f (CLOSE c) w
other_write f g (STORE c) w = f (STORE c) w
other_write f g (CHECKPOINT c) w = f (CHECKPOINT c) w
other_write f g CUT w = f CUT w
other_write f g RECOVER w = f RECOVER w
other_write f g (RETIRE c) w = f (RETIRE c) w

abbrev pub other_close : Step World → (ℕ → World → Outcome World) → Step World
other_close f g (FORMAT c b j) w = f (FORMAT c b j) w
other_close f g (WRITE task c b o v) w = f (WRITE task c b o v) w
other_close f g (CLOSE c) w = g c w
other_close f g (STORE c) w = f (STORE c) w
other_close f g (CHECKPOINT c) w = f (CHECKPOINT c) w
other_close f g CUT w = f CUT w
other_close f g RECOVER w = f RECOVER w
other_close f g (RETIRE c) w = f (RETIRE c) w

abbrev pub other_store : Step World → (ℕ → World → Outcome World) → Step World
other_store f g (FORMAT c b j) w = f (FORMAT c b j) w
other_store f g (WRITE task c b o v) w = f (WRITE task c b o v) w
other_store f g (CLOSE c) w = f (CLOSE c) w
other_store f g (STORE c) w = g c w
other_store f g (CHECKPOINT c) w = f (CHECKPOINT c) w
other_store f g CUT w = f CUT w
other_store f g RECOVER w = f RECOVER w
other_store f g (RETIRE c) w = f (RETIRE c) w

abbrev pub other_checkpoint : Step World → (ℕ → World → Outcome World) → Step World
other_checkpoint f g (FORMAT c b j) w = f (FORMAT c b j) w
other_checkpoint f g (WRITE task c b o v) w = f (WRITE task c b o v) w
other_checkpoint f g (CLOSE c) w = f (CLOSE c) w
other_checkpoint f g (STORE c) w = f (STORE c) w
other_checkpoint f g (CHECKPOINT c) w = g c w
other_checkpoint f g CUT w = f CUT w
other_checkpoint f g RECOVER w = f RECOVER w
other_checkpoint f g (RETIRE c) w = f (RETIRE c) w

abbrev pub other_retire : Step World → (ℕ → World → Outcome World) → Step World
other_retire f g (FORMAT c b j) w = f (FORMAT c b j) w
other_retire f g (WRITE task c b o v) w = f (WRITE task c b o v) w
other_retire f g (CLOSE c) w = f (CLOSE c) w
other_retire f g (STORE c) w = f (STORE c) w
other_retire f g (CHECKPOINT c) w = f (CHECKPOINT c) w
other_retire f g CUT w = f CUT w
other_retire f g RECOVER w = f RECOVER w
other_retire f g (RETIRE c) w = g c w

abbrev pub other_cut : Step World → (World → Outcome World) → Step World
other_cut f g (FORMAT c b j) w = f (FORMAT c b j) w
other_cut f g (WRITE task c b o v) w = f (WRITE task c b o v) w
other_cut f g (CLOSE c) w = f (CLOSE c) w
other_cut f g (STORE c) w = f (STORE c) w
other_cut f g (CHECKPOINT c) w = f (CHECKPOINT c) w
other_cut f g CUT w = g w
other_cut f g RECOVER w = f RECOVER w
other_cut f g (RETIRE c) w = f (RETIRE c) w

abbrev pub other_recover : Step World → (World → Outcome World) → Step World
other_recover f g (FORMAT c b j) w = f (FORMAT c b j) w
other_recover f g (WRITE task c b o v) w = f (WRITE task c b o v) w
other_recover f g (CLOSE c) w = f (CLOSE c) w
other_recover f g (STORE c) w = f (STORE c) w
other_recover f g (CHECKPOINT c) w = f (CHECKPOINT c) w
other_recover f g CUT w = f CUT w
other_recover f g RECOVER w = g w
other_recover f g (RETIRE c) w = f (RETIRE c) w

-- ---- tables
-- the byte of a command
abbrev pub byte_of : Command → ℕ
byte_of (FORMAT c b j) = 1
byte_of (WRITE lamp_task c b o v) = 2
byte_of (WRITE report_task c b o v) = 9
byte_of (CLOSE c) = 3
byte_of (STORE c) = 4
byte_of (CHECKPOINT c) = 5
byte_of CUT = 6
byte_of RECOVER = 7
byte_of (RETIRE c) = 8

-- the command of byte k always answers n
abbrev pub refusing : ℕ → ℕ → Step World
refusing k n m w = cond (eqb (byte_of m) k) (refused_with n w) (step m w)

-- the condition of number n is another one
abbrev pub with_condition : ℕ → Bool → List (Bool × ℕ) → List (Bool × ℕ)
with_condition n test ts = map (λ (t : Bool × ℕ). cond (eqb t.1 n) (test, n) t) ts

-- .. in a command
abbrev pub asking : ℕ → Bool → Step World
asking n test k w = unless (with_condition n test (conditions_of in_sequence k w)) w (done_by in_sequence k w)

abbrev pub write_asking : ℕ → (ℕ → ℕ → World → Bool) → Step World
write_asking n test = other_write step (λ task c b o v w. asking n (test c b w) (WRITE task c b o v) w)

-- .. in CHECKPOINT and RETIRE, of the card f
abbrev pub oldest_asking : Step World → ℕ → (ℕ → World → Bool) → Step World
oldest_asking f n test =
    other_retire (other_checkpoint f (λ c w. asking n (test c w) (CHECKPOINT c) w)) (λ c w. asking n (test c w) (RETIRE c) w)

-- the condition of number n is not asked
abbrev pub ignoring : ℕ → Step World
ignoring n k w = asking n false k w

-- .. with 1, 2 and 3 among them, which are the tape's
abbrev pub ignoring_at : ℕ → TapeStep World
ignoring_at n t at w = unless (with_condition n false (conditions_on in_sequence (read_at t at) w)) w (done_on in_sequence (read_at t at) w)

-- ---- outcomes and cards changed
-- where a command is carried out, the card that it leaves is changed once more
abbrev pub patched : (Card → Card) → Outcome World → Outcome World
patched g o =
    cond (eqb o.answer 0)
    (record { answer = 0; world = record { card = g o.world.card; disk = o.world.disk; memory = o.world.memory }; stores = o.stores })
    o

abbrev pub with_memory : Bytes → Outcome World → Outcome World
with_memory m o = record { answer = o.answer; world = record { card = o.world.card; disk = o.world.disk; memory = m }; stores = o.stores }

abbrev pub with_disk : Bytes → Outcome World → Outcome World
with_disk d o = record { answer = o.answer; world = record { card = o.world.card; disk = d; memory = o.world.memory }; stores = o.stores }

abbrev pub with_card : World → Card → World
with_card w x = record { card = x; disk = w.disk; memory = w.memory }

abbrev pub put_closes : ℕ → Card → Card
put_closes n x =
    record { phase = x.phase; shape = x.shape; closes = n; recovered = x.recovered; tails = x.tails; cores = x.cores; holders = x.holders }

-- core c's running transaction, and its closed one, changed
abbrev pub on_running : ℕ → (Transaction → Transaction) → Card → Card
on_running c g x = with_core x c (with_running (core_of x c) (g (core_of x c).running))

abbrev pub on_closed : ℕ → (Transaction → Transaction) → Card → Card
on_closed c g x =
    let k = core_of x c in
    with_core x c (record { next = k.next; used = k.used; stored = k.stored; homed = k.homed; running = k.running; closed = g k.closed })

-- ---- STORE: where the next block is stored, and its bytes
abbrev pub store_by : (Card → ℕ → ℕ) → (ℕ → Core → Bytes → Bytes) → Step World
store_by place bytes =
    other_store step (λ c w.
    let k = core_of w.card c in
    unless (store_conditions c w) w (storing w (with_core w.card c (core_stored k)) (place w.card c) (bytes c k w.memory)))

-- ---- RECOVER: the blocks left, the image that a block gets, the tails that the master store gives
abbrev pub recover_step_by : (Bytes → ℕ → Bytes) → (Bytes → ℕ → Tail) → List ℕ → World → Outcome World
recover_step_by image tail [] w =
    let s = shape_on w.disk in
    storing w (fresh_card Up s (map (tail w.disk) (below 8))) 0 (master_block Numbers s (tail w.disk))
recover_step_by image tail (b ∷ bs) w = storing w (recovered_to w.card (b + 1)) (home_block b) (image w.disk b)

abbrev pub recover_by : (World → List ℕ) → (Bytes → ℕ → Bytes) → (Bytes → ℕ → Tail) → Step World
recover_by left image tail = other_recover step (λ w. unless (recover_conditions w) w (recover_step_by image tail (left w) w))

-- the model's own ones, by the disk's layout
abbrev pub own_left : World → List ℕ
own_left w = blocks_left in_sequence (layout_on w.disk) w

abbrev pub own_image : Bytes → ℕ → Bytes
own_image d = newest_image in_sequence (layout_on d) d

abbrev pub own_tail : Bytes → ℕ → Tail
own_tail d = emptied_tail (layout_on d) d

-- by the set of transactions that count as valid on a disk
abbrev pub recover_set : (Bytes → List Committed) → Step World
recover_set set =
    recover_by (λ (w : World). select (leb w.card.recovered) (blocks_held (shape_on w.disk) w.disk (set w.disk)))
    (λ (d : Bytes) (b : ℕ). image_found d b (newest (shape_on d) d b None (set d))) own_tail

-- by the new tail number, from the old one and the count of transactions read
abbrev pub tail_by : (ℕ → ℕ → ℕ) → Bytes → ℕ → Tail
tail_by next d c =
    let s = shape_on d in
    let t = tail_on d c in
    cond (ltb c s.cores) (new_tail (next t.number (length (journal (layout_on d) s d c t s.journal))) 0) (new_tail 0 0)

abbrev pub recover_tail : (ℕ → ℕ → ℕ) → Step World
recover_tail next = recover_by own_left own_image (tail_by next)

-- ---- paper 02, (c): one rule in running, one in recovery
abbrev pub by_orders : Order → Order → Step World
by_orders running recovery = other_recover (step_by running) (step_by recovery RECOVER)

-- CHECKPOINT, RETIRE and RECOVER by another valid set, of layout, shape, disk, tails and the transactions read
abbrev pub valid_by : (CommitLayout → Shape → Bytes → (ℕ → Tail) → List Committed → List Committed) → Step World
valid_by set =
    oldest_asking (recover_set (λ (d : Bytes). set (layout_on d) (shape_on d) d (tail_on d) (committed_on d))) 32
    (λ c w.
    let valid = set Numbers (shape_of w.card) w.disk (tail_of w.card) (committed_now w) in
    not (is_in valid (name_of (oldest (committed_of w c)))))

-- ---- paper 02, (d): the layout of which each command's master says that its commits are
abbrev pub format_as : CommitLayout → Step World
format_as y = other_format step (λ c b j w. unless (format_conditions c b j w) w (let s = new_shape c b j in with_disk (formatted_disk y s) (formatted s)))

abbrev pub retire_as : CommitLayout → Step World
retire_as y =
    other_retire step (λ c w.
    let x = retired_card c (oldest (committed_of w c)) w.card in
    unless (retire_conditions in_sequence c w) w (storing w x 0 (master_block y (shape_of x) (tail_of x))))

-- .. RECOVER also by what it takes for a master and by the layout that it reads
abbrev pub recover_as : (Bytes → Bool) → (Bytes → CommitLayout) → (Bytes → CommitLayout) → Step World
recover_as fits reads closing =
    other_recover step (λ w. let d = w.disk in unless (recover_conditions_by fits w) w (recovered_by in_sequence (reads d) (closing d) w))

abbrev pub always_lists : Bytes → CommitLayout
always_lists d = Lists

abbrev pub always_numbers : Bytes → CommitLayout
always_numbers d = Numbers

-- WRITE: what comes of a transaction that names another
abbrev pub writer_naming : (Transaction → Name → Transaction) → Card → ℕ → ℕ → Transaction
writer_naming name x c b =
    let r = rule_for x c b in
    let t = cond (names_holder r) (name (writer x c) (holder_name (holder_of x b))) (writer x c) in
    cond (takes_block r) (with_block t b) t

abbrev pub card_naming : (Transaction → Name → Transaction) → Card → ℕ → ℕ → Card
card_naming name x c b =
    let r = rule_for x c b in
    let u = (holder_name (holder_of x b)).core in
    let x₁ = cond (is_named_back r) (with_core x u (with_running (core_of x u) (name (core_of x u).running (writer_name x c)))) x in
    let x₂ = with_core x₁ c (with_running (core_of x₁ c) (writer_naming name x c b)) in
    cond (takes_block r) (with_holder x₂ b (new_holder (writer_name x c))) x₂

abbrev pub write_naming : (Transaction → Name → Transaction) → Step World
write_naming name =
    other_write step (λ task c b o v w.
    unless (write_conditions (block_limit task) c b o w) w (unstored w (card_naming name w.card c b) (written_memory w c b o v)))

-- ---- paper 02, (h): the report task's WRITE, byte 9, is that of the card g
abbrev by_task : Step World → Task → Step World
by_task g lamp_task k w = step k w
by_task g report_task k w = g k w

abbrev pub other_report : Step World → Step World
other_report g = other_write step (λ task c b o v w. by_task g task (WRITE task c b o v) w)

-- 36 by the rules under which it is asked, and the number of blocks from which on
abbrev pub limit_asking : (Rule → Bool) → ℕ → Step World
limit_asking rule n = write_asking 36 (λ c b w. rule (rule_for w.card c b) && leb n (writer w.card c).count)
