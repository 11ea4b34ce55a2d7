-- Condition 40 as a card tests it, paper 02, (m): 'a barrier is missing', from the blocks stored since the barrier alone, and the disk as
-- it is.
use Rattle.std.specs.Prelude.{ℕ, ◌+◌, ◌-◌, Bool, false, cond, not, ◌&&◌, ◌||◌, List, length, eqb, leb, ltb}
use Rattle.model.specs.Lists.{below, any}
use Rattle.model.specs.Shape.{home_block, journal_block}
use Rattle.model.specs.Card.{shape_of, core_of, tail_of, taken, committed_count}
use Rattle.model.specs.Journal.{journals, name_of, blocks_of}
use Rattle.model.specs.Command.{World}
use Rattle.model.specs.Checkpoint.{committed_of, oldest}
use Rattle.model.specs.Recovery.{blocks_left, layout_on, shape_on}
use Rattle.model.specs.Tape.{CHECKPOINT, CLOSE, CUT, Command, FORMAT, RECOVER, RETIRE, STORE, WRITE}
use Rattle.model.specs.Valid.{in_sequence, is_in, valid_set}
use Rattle.model.specs.declared.Committed.{Committed}
use Rattle.model.specs.declared.CommitLayout.TheVariants.{Numbers}
use Rattle.drive.specs.Drive.{Drive}

abbrev pub is_among : ℕ → List ℕ → Bool
is_among p ps = any (eqb p) ps

-- ---- what is committed behind the barrier
-- core c's last committed block, which is a commit, is among the blocks
unfoldable pub last_among : World → List ℕ → ℕ → Bool
last_among w ps c =
    let n = (core_of w.card c).used in
    ltb 0 n && is_among (journal_block (shape_of w.card) c ((tail_of w.card c).position + (n - 1))) ps

-- so many of its transactions are committed behind the barrier: one commit of a core at most is since then
unfoldable pub behind_count : World → List ℕ → ℕ → ℕ
behind_count w ps c = committed_count w.card c - cond (last_among w ps c) 1 0

-- the valid set of these
unfoldable pub valid_behind : World → List ℕ → List Committed
valid_behind w ps =
    let s = shape_of w.card in
    let tails = tail_of w.card in
    valid_set in_sequence Numbers s w.disk tails (journals Numbers s w.disk tails (behind_count w ps))

-- ---- 40
-- a block that is stored of core c's closed transaction is among the blocks
unfoldable pub part_among : World → List ℕ → ℕ → Bool
part_among w ps c =
    let k = core_of w.card c in
    any (λ (i : ℕ). is_among (journal_block (shape_of w.card) c ((tail_of w.card c).position + (k.used + i))) ps) (below k.stored)

-- one of these home blocks is
unfoldable pub home_among : List ℕ → List ℕ → Bool
home_among bs ps = any (λ (b : ℕ). is_among (home_block b) ps) bs

-- nothing of core c's oldest is stored home, and it is not valid by what is committed behind the barrier
unfoldable pub home_too_early_on : ℕ → Drive → Bool
home_too_early_on c d =
    let w = d.world in
    eqb (core_of w.card c).homed 0 && not (is_in (valid_behind w d.since) (name_of (oldest (committed_of w c))))

unfoldable pub barrier_missing_on : Command → Drive → Bool
barrier_missing_on (FORMAT c b j) d = false
barrier_missing_on (WRITE task c b o v) d = false
barrier_missing_on (CLOSE c) d = false
-- block 0: 'after every master store before the next store'; 'between a record's descriptor and data and its commit'
barrier_missing_on (STORE c) d =
    let k = core_of d.world.card c in
    is_among 0 d.since || (not (leb k.stored (length (taken k.closed))) && part_among d.world d.since c)
-- 'between the commits of a transaction and of all it depends on and its first home store'
barrier_missing_on (CHECKPOINT c) d = is_among 0 d.since || home_too_early_on c d
barrier_missing_on CUT d = false
-- 'in recovery too'; 'or of recovery, and its master store'
barrier_missing_on RECOVER d =
    let w = d.world in
    is_among 0 d.since
    || (eqb (length (blocks_left in_sequence (layout_on w.disk) w)) 0 && home_among (below (shape_on w.disk).blocks) d.since)
-- '(its master store where it has no block)'; 'between the home stores of a transaction .. and its master store'
barrier_missing_on (RETIRE c) d =
    let w = d.world in
    is_among 0 d.since || home_too_early_on c d || home_among (blocks_of (shape_of w.card) w.disk (oldest (committed_of w c))) d.since
