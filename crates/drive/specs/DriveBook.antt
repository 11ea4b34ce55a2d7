-- The service book of a drive: the book and, of each store since the barrier, the transaction that it committed, if it did; from commands
-- and answers alone. Paper 02, (m): 'A commit counts as committed for a cut only if its store survives.'
use Rattle.std.specs.Prelude.{ℕ, Bool, false, cond, List, [], ◌∷◌}
use Rattle.std.proofs.Math.Option.{Option, none, some}
use Rattle.model.specs.Card.{new_name, same_name}
use Rattle.model.specs.Tape.{CHECKPOINT, CLOSE, CUT, Command, FORMAT, RECOVER, RETIRE, STORE, WRITE}
use Rattle.model.specs.declared.Name.{Name}
use Rattle.crash.specs.Book.{Book}
use Rattle.crash.specs.Service.{Service, cut_service, served}
use Rattle.drive.specs.LostCommits.{book_without}
use Rattle.drive.specs.Since.{lost_among}
use Rattle.drive.specs.DriveLedger.{commit_next}

-- the newest store first
pub record DriveService : Type 0 where
  pub service : Service
  pub since : List (Option Name)

-- ---- a cut
abbrev pub is_of : Name → Option Name → Bool
is_of t none = false
is_of t (some u) = same_name t u

-- 'CUT adds the writes of the kept transactions' of the book without the commits that are lost with the marked stores
unfoldable pub cut_losing : (ℕ → Bool) → DriveService → Service
cut_losing marked v =
    let s = v.service in
    cut_service (record { blocks = s.blocks; saved = s.saved; book = book_without (lost_among is_of marked v.since) s.book })

-- ---- a store
-- the transaction that a command commits
unfoldable pub commit_made : Command → Book → Option Name
commit_made (FORMAT c b j) k = none
commit_made (WRITE task c b o v) k = none
commit_made (CLOSE c) k = none
commit_made (STORE c) k = cond (commit_next c k) (some (new_name c (k.uncommitted c))) none
commit_made (CHECKPOINT c) k = none
commit_made CUT k = none
commit_made RECOVER k = none
commit_made (RETIRE c) k = none

-- a command that stores, and one that does not
abbrev pub store_served : Command → DriveService → DriveService
store_served k v = record { service = served k v.service; since = commit_made k v.service.book ∷ v.since }

abbrev pub other_served : Command → DriveService → DriveService
other_served k v = record { service = served k v.service; since = v.since }

-- ---- what commands make of it
-- nothing is since the barrier
abbrev pub served_barrier : Service → DriveService
served_barrier s = record { service = s; since = [] }

-- a command carried out; 'plain CUT loses none'
unfoldable pub drive_served : Command → DriveService → DriveService
drive_served (FORMAT c b j) v = served_barrier (served (FORMAT c b j) v.service)
drive_served (WRITE task c b o x) v = other_served (WRITE task c b o x) v
drive_served (CLOSE c) v = other_served (CLOSE c) v
drive_served (STORE c) v = store_served (STORE c) v
drive_served (CHECKPOINT c) v = store_served (CHECKPOINT c) v
drive_served CUT v = served_barrier (cut_losing (λ (i : ℕ). false) v)
drive_served RECOVER v = store_served RECOVER v
drive_served (RETIRE c) v = store_served (RETIRE c) v
