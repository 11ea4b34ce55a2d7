-- The ledger of the drive: the ledger, the ledger before the last store, and the stores since the barrier. (Where none is, the second is
-- not looked at.) In its words condition 40, 'a barrier is missing', and what a cut leaves that loses stores.
use Rattle.std.specs.Prelude.{ℕ, suc, ◌+◌, Bool, false, cond, not, ◌&&◌, ◌||◌, List, [], ◌∷◌, length, eqb, leb}
use Rattle.std.proofs.Math.Option.{Option, none, some}
use Rattle.model.specs.Lists.{any}
use Rattle.model.specs.Card.{new_name, same_name, is_up}
use Rattle.model.specs.Tape.{CHECKPOINT, CLOSE, CUT, Command, FORMAT, RECOVER, RETIRE, STORE, WRITE}
use Rattle.crash.specs.Book.{Book, stage_count}
use Rattle.crash.specs.Ledger.{Ledger, valid_in, cut_ledger, carried_out}
use Rattle.drive.specs.LostCommits.{book_without, ledger_without}
use Rattle.drive.specs.Since.{StoreKind, record_part, commit, home, master, restore, is_master_store, is_restore, part_since, commit_since, home_since, lost_since}

pub record DriveLedger : Type 0 where
  pub now : Ledger
  pub before : Ledger
  pub since : List StoreKind

-- nothing is since the barrier
abbrev pub at_barrier : Ledger → DriveLedger
at_barrier l = record { now = l; before = l; since = [] }

-- ---- what a command will store
-- the next store of core c's closed transaction is its commit
abbrev pub commit_next : ℕ → Book → Bool
commit_next c k = let e = k.entry (new_name c (k.uncommitted c)) in leb (length e.blocks + 2) (suc (stage_count e.stage))

-- RECOVER, with these blocks left
unfoldable pub left_kind : List ℕ → StoreKind
left_kind [] = master
left_kind (b ∷ bs) = restore

unfoldable pub kind_of : Command → Ledger → Option StoreKind
kind_of (FORMAT c b j) l = none
kind_of (WRITE task c b o v) l = none
kind_of (CLOSE c) l = none
kind_of (STORE c) l = some (cond (commit_next c l.book) (commit (new_name c (l.book.uncommitted c))) (record_part c))
kind_of (CHECKPOINT c) l = some (home (new_name c (l.book.oldest c)))
kind_of CUT l = none
kind_of RECOVER l = some (left_kind l.left)
kind_of (RETIRE c) l = some master

-- ---- 40: a barrier is missing
-- nothing of core c's oldest is stored home, and it is not valid by what is committed behind the barrier
unfoldable pub home_too_early : ℕ → DriveLedger → Bool
home_too_early c d =
    let k = d.now.book in
    let t = new_name c (k.oldest c) in
    eqb (stage_count (k.entry t).stage) 0 && not (any (same_name t) (valid_in (book_without (commit_since d.since) k)))

unfoldable pub barrier_missing : Command → DriveLedger → Bool
barrier_missing (FORMAT c b j) d = false
barrier_missing (WRITE task c b o v) d = false
barrier_missing (CLOSE c) d = false
-- 'after every master store before the next store'; 'between a record's descriptor and data and its commit'
barrier_missing (STORE c) d = any is_master_store d.since || (commit_next c d.now.book && part_since d.since c)
-- 'between the commits of a transaction and of all it depends on and its first home store'
barrier_missing (CHECKPOINT c) d = any is_master_store d.since || home_too_early c d
barrier_missing CUT d = false
-- 'in recovery too'; 'or of recovery, and its master store'
barrier_missing RECOVER d = any is_master_store d.since || (eqb (length d.now.left) 0 && any is_restore d.since)
-- '(its master store where it has no block)'; 'between the home stores of a transaction .. and its master store'
barrier_missing (RETIRE c) d = any is_master_store d.since || home_too_early c d || home_since d.since (new_name c (d.now.book.oldest c))

-- ---- a cut that loses the marked stores
-- the last store was of the master, and is marked
unfoldable pub master_lost : (ℕ → Bool) → List StoreKind → Bool
master_lost marked [] = false
master_lost marked (k ∷ ks) = is_master_store k && marked (length ks)

-- on a card that is up it loses the commits among them; recovery has stored none
unfoldable pub cut_without : (ℕ → Bool) → List StoreKind → Ledger → Ledger
cut_without marked ks l = cond (is_up l.phase) (cut_ledger (ledger_without (lost_since marked ks) l)) (cut_ledger l)

-- where the master store is lost, all is as before it: nothing was stored after it
unfoldable pub lossy_cut : (ℕ → Bool) → DriveLedger → Ledger
lossy_cut marked d = cut_without marked d.since (cond (master_lost marked d.since) d.before d.now)

-- ---- what commands make of it
abbrev pub with_stored : Option StoreKind → Ledger → DriveLedger → DriveLedger
with_stored none l d = record { now = l; before = d.before; since = d.since }
with_stored (some k) l d = record { now = l; before = d.now; since = k ∷ d.since }

unfoldable pub ledger_after : Command → DriveLedger → DriveLedger
ledger_after k d = with_stored (kind_of k d.now) (carried_out k d.now) d

-- BARRIER
unfoldable pub ledger_barrier : DriveLedger → DriveLedger
ledger_barrier d = at_barrier d.now

-- CUT LOSING
unfoldable pub ledger_cut : (ℕ → Bool) → DriveLedger → DriveLedger
ledger_cut marked d = at_barrier (lossy_cut marked d)

-- a command carried out; 'plain CUT loses none'; 'what a cut or FORMAT leaves counts as behind a barrier'
unfoldable pub ledger_done : Command → DriveLedger → DriveLedger
ledger_done (FORMAT c b j) d = at_barrier (carried_out (FORMAT c b j) d.now)
ledger_done (WRITE task c b o v) d = ledger_after (WRITE task c b o v) d
ledger_done (CLOSE c) d = ledger_after (CLOSE c) d
ledger_done (STORE c) d = ledger_after (STORE c) d
ledger_done (CHECKPOINT c) d = ledger_after (CHECKPOINT c) d
ledger_done CUT d = ledger_cut (λ (i : ℕ). false) d
ledger_done RECOVER d = ledger_after RECOVER d
ledger_done (RETIRE c) d = ledger_after (RETIRE c) d
