-- Paper 02, (m), computed. For each clause of 40 a run whose last command meets that clause and no other refusal, and is carried out all the
-- same. Then a cut that loses one of the stores since the barrier leaves a disk from which recovery gives another home area than those of
-- service book and ledger (`master_before_commit` compares otherwise). Each is named after what survives and what is lost. Last, runs in
-- which no barrier is missing, and the areas are the same.
use Prim.Native.Nat.{ℕ, suc, ◌*◌}
use mathlib.Core.Path.{◌≡◌, refl}
use mathlib.Core.Bool.{Bool, true, false, cond, not, ◌&&◌}
use mathlib.Core.List.{List, [], ◌∷◌, ◌++◌, map}
use lib.ListN.{get_or, replicate}
use lib.Dec.{eqb}
use Rattle.model.specs.Limits.{block_size}
use Rattle.model.specs.Lists.{below}
use Rattle.model.specs.Bytes.{Bytes, be4, block_at}
use Rattle.model.specs.Card.{new_name}
use Rattle.model.specs.Command.{refusal}
use Rattle.model.specs.Recovery.{recovered_area}
use Rattle.model.specs.Tape.{CHECKPOINT, CLOSE, CUT, Command, FORMAT, RECOVER, RETIRE, STORE, WRITE, lamp_task}
use Rattle.model.specs.Valid.{in_sequence}
use Rattle.model.specs.Printing.{blank_world}
use Rattle.crash.specs.Service.{empty_service, book_area}
use Rattle.crash.specs.Ledger.{blank_ledger, fresh_ledger, image_now, close_ledger, unretired, met_in, valid_in, blocks_in, cut_ledger, recover_ledger, carried_out, record_blocks, format_refusals, writer_blocks, limit_passes, journal_passes, number_passes, write_refusals, close_refusals, store_refusals, shares_lower_in, checkpoint_refusals, retire_refusals, refusals_of}
use Rattle.crash.specs.Spans.{kept_area}
use Rattle.crash.proofs.Books.BookExamples.{books}
use Rattle.drive.specs.LostCommits.{book_without}
use Rattle.drive.specs.Since.{StoreKind, record_part, commit, home, master, restore}
use Rattle.drive.specs.Undone.{stands_later, undone}
use Rattle.drive.specs.Drive.{Drive, drive_after, drive_barrier, drive_cut, drive_done}
use Rattle.drive.specs.BarrierPlaces.{is_among, last_among, behind_count, valid_behind, part_among, home_among, home_too_early_on, barrier_missing_on}
use Rattle.drive.specs.DriveLedger.{DriveLedger, at_barrier, left_kind, kind_of, home_too_early, barrier_missing, master_lost, cut_without, lossy_cut, ledger_after, ledger_barrier, ledger_cut, ledger_done}
use Rattle.drive.specs.DriveBook.{DriveService, cut_losing, commit_made, served_barrier, drive_served}

-- ---- a run
-- the commands of a drive; of CUT LOSING the marked stores, counted from 0
pub data DriveCommand : Type 0 where
  card : Command → DriveCommand
  BARRIER : DriveCommand
  CUT_LOSING : List ℕ → DriveCommand

-- drive, ledger and service book after commands, the refused ones carried out too; the answers of these
pub record Run : Type 0 where
  pub drive : Drive
  pub ledger : DriveLedger
  pub service : DriveService
  pub refused : List (ℕ × Bool)

abbrev new_run : Drive → DriveLedger → DriveService → List (ℕ × Bool) → Run
new_run d l v refused = record { drive = d; ledger = l; service = v; refused = refused }

abbrev blank_run : Run
blank_run =
    new_run (record { world = blank_world; since = []; images = replicate 8192 0 })
    (at_barrier (blank_ledger in_sequence)) (served_barrier (empty_service in_sequence 0)) []

-- the ledger's answer, 40 'after all others', and whether a barrier is missing by the drive
abbrev answer_to : Command → Run → ℕ × Bool
answer_to k r = (refusal (refusals_of k r.ledger.now ++ ((barrier_missing k r.ledger, 40) ∷ [])), barrier_missing_on k r.drive)

abbrev step : DriveCommand → Run → Run
step (card k) r =
    let a = answer_to k r in
    new_run (drive_done k r.drive) (ledger_done k r.ledger) (drive_served k r.service)
    (r.refused ++ cond (eqb a.0 0 && not a.1) [] (a ∷ []))
step BARRIER r = new_run (drive_barrier r.drive) (ledger_barrier r.ledger) (served_barrier r.service.service) r.refused
step (CUT_LOSING lost) r =
    let marked : ℕ → Bool = λ i. is_among i lost in
    new_run (drive_cut marked r.drive) (ledger_cut marked r.ledger) (served_barrier (cut_losing marked r.service)) r.refused

unfoldable pub ran : List DriveCommand → Run → Run
ran [] r = r
ran (k ∷ ks) r = ran ks (step k r)

-- what is looked at, of a run, a last command and a cut: the answers of the refused ones before the last, and its own; the stores since the
-- barrier before it, the newest first; the first byte of each home block, as recovery gives it after the cut, in the service book's
-- area and in the ledger's
pub record Seen : Type 0 where
  pub refused : List (ℕ × Bool)
  pub answer : ℕ × Bool
  pub since : List StoreKind
  pub recovered : List ℕ
  pub in_book : List ℕ
  pub in_ledger : List ℕ

abbrev first_bytes : ℕ → Bytes → List ℕ
first_bytes n area = map (λ (b : ℕ). get_or area (block_size * b) 0) (below n)

-- the cut loses these stores since the barrier, counted from 0
unfoldable pub seen : List DriveCommand → Command → List ℕ → Seen
seen ks k lost =
    let r = ran ks blank_run in
    let e = ran (card k ∷ CUT_LOSING lost ∷ []) r in
    let n = e.service.service.blocks in
    record {
      refused = r.refused;
      answer = answer_to k r;
      since = r.ledger.since;
      recovered = first_bytes n (recovered_area e.drive.world.disk);
      in_book = first_bytes n (book_area e.service.service);
      in_ledger = first_bytes n (kept_area e.ledger.now);
    }

unfoldable pub drives : Unit {0}
unfolding books kept_area blank_ledger fresh_ledger image_now close_ledger unretired met_in valid_in blocks_in cut_ledger recover_ledger carried_out record_blocks format_refusals writer_blocks limit_passes journal_passes number_passes write_refusals close_refusals store_refusals shares_lower_in checkpoint_refusals retire_refusals refusals_of book_area book_without stands_later undone drive_after drive_barrier drive_cut drive_done last_among behind_count valid_behind part_among home_among home_too_early_on barrier_missing_on left_kind kind_of home_too_early barrier_missing master_lost cut_without lossy_cut ledger_after ledger_barrier ledger_cut ledger_done cut_losing commit_made drive_served ran seen
drives = tt

-- ---- commands
-- journals of 10 blocks
abbrev format : ℕ → ℕ → DriveCommand
format c b = card (FORMAT c b 10)

-- four bytes x at the beginning of block b
abbrev write : ℕ → ℕ → ℕ → DriveCommand
write c b x = card (WRITE lamp_task c b 0 (replicate 4 x))

-- CLOSE and the first n stores of the record
abbrev stores : ℕ → ℕ → List DriveCommand
stores c n = card (CLOSE c) ∷ replicate n (card (STORE c))

-- all of them, of a transaction that took n blocks
abbrev commits : ℕ → ℕ → List DriveCommand
commits c n = stores c (suc n) ++ BARRIER ∷ card (STORE c) ∷ []

-- (0,1) takes block 0; its commit is since the barrier
abbrev one_committed : List DriveCommand
one_committed = format 1 1 ∷ write 0 0 1 ∷ commits 0 1

-- (0,1) takes block 0 and (1,1) writes into it, so each names the other; (0,1) is committed, of (1,1) the descriptor is stored
abbrev one_of_two : List DriveCommand
one_of_two = format 2 1 ∷ write 0 0 1 ∷ write 1 0 2 ∷ commits 0 1 ++ stores 1 1

-- ---- 'after every master store before the next store'
-- (0,1) and (0,2) fill the journal, (0,1) is retired, and the descriptor of (0,3) falls on its record. The master store is lost: the
-- journal is read from the old tail, where no record of number 1 stands any more, so (0,2) is not read.
pub descriptor_before_master :
    seen
    (format 1 5 ∷ write 0 0 1 ∷ commits 0 1 ++ map (λ (b : ℕ). write 0 b 2) (below 5) ++ commits 0 5
    ++ card (CHECKPOINT 0) ∷ BARRIER ∷ card (RETIRE 0) ∷ write 0 0 3 ∷ stores 0 0)
    (STORE 0) (0 ∷ [])
    ≡ record { refused = []; answer = (40, true); since = master ∷ []; recovered = 1 ∷ 0 ∷ 0 ∷ 0 ∷ 0 ∷ []; in_book = 2 ∷ 2 ∷ 2 ∷ 2 ∷ 2 ∷ []; in_ledger = 2 ∷ 2 ∷ 2 ∷ 2 ∷ 2 ∷ [] }
unfolding drives
descriptor_before_master = refl

-- 'in recovery too': (1,1) wrote block 0 after (0,1), and recovery stored its image home. The descriptor of core 1's next falls on the
-- record of (1,1). Recovery's master store is lost: the record of (0,1) is still read, that of (1,1) is not, and the older image goes home.
pub descriptor_before_recovery_master :
    seen
    (format 2 1 ∷ write 0 0 1 ∷ commits 0 1 ++ write 1 0 2 ∷ commits 1 1
    ++ card CUT ∷ card RECOVER ∷ BARRIER ∷ card RECOVER ∷ write 1 0 3 ∷ stores 1 0)
    (STORE 1) (0 ∷ [])
    ≡ record { refused = []; answer = (40, true); since = master ∷ []; recovered = 1 ∷ []; in_book = 2 ∷ []; in_ledger = 2 ∷ [] }
unfolding drives
descriptor_before_recovery_master = refl

-- ---- 'between a record's descriptor and data and its commit'
-- The descriptor is behind the barrier. The data store is lost, and what stood there before goes home.
pub commit_before_data : seen (format 1 1 ∷ write 0 0 1 ∷ stores 0 1 ++ BARRIER ∷ card (STORE 0) ∷ []) (STORE 0) (0 ∷ [])
    ≡ record { refused = []; answer = (40, true); since = record_part 0 ∷ []; recovered = 0 ∷ []; in_book = 1 ∷ []; in_ledger = 1 ∷ [] }
unfolding drives
commit_before_data = refl

-- (1,1) has no data. The descriptor's store is lost, and the record is not read, so neither is valid.
pub commit_before_descriptor : seen one_of_two (STORE 1) (1 ∷ [])
    ≡ record { refused = []; answer = (40, true); since = record_part 1 ∷ commit (new_name 0 1) ∷ []; recovered = 0 ∷ []; in_book = 2 ∷ []; in_ledger = 2 ∷ [] }
unfolding drives
commit_before_descriptor = refl

-- ---- 'between the commits of a transaction and of all it depends on and its first home store'
-- The commit is lost, and the write is at home.
pub home_before_commit : seen one_committed (CHECKPOINT 0) (0 ∷ [])
    ≡ record { refused = []; answer = (40, true); since = commit (new_name 0 1) ∷ []; recovered = 1 ∷ []; in_book = 0 ∷ []; in_ledger = 0 ∷ [] }
unfolding drives
home_before_commit = refl

-- The commit of (1,1) is lost, and with it (0,1), whose own commit is behind the barrier.
pub home_before_other_commit : seen (one_of_two ++ BARRIER ∷ card (STORE 1) ∷ []) (CHECKPOINT 0) (0 ∷ [])
    ≡ record { refused = []; answer = (40, true); since = commit (new_name 1 1) ∷ []; recovered = 2 ∷ []; in_book = 0 ∷ []; in_ledger = 0 ∷ [] }
unfolding drives
home_before_other_commit = refl

-- '(its master store where it has no block)': (1,1), without a block, depends on (0,1), whose commit is lost, and (1,2) on (1,1). (1,1)
-- lies below the tail, so (1,2) comes back.
pub master_before_other_commit :
    seen (format 2 2 ∷ write 0 0 1 ∷ write 1 0 2 ∷ commits 1 0 ++ write 1 1 3 ∷ commits 1 1 ++ commits 0 1) (RETIRE 1) (0 ∷ [])
    ≡ record { refused = []; answer = (40, true); since = commit (new_name 0 1) ∷ []; recovered = 0 ∷ 3 ∷ []; in_book = 0 ∷ 0 ∷ []; in_ledger = 0 ∷ 0 ∷ [] }
unfolding drives
master_before_other_commit = refl

-- The commit of (1,1) itself is lost. Before RETIRE such a cut keeps neither. After it (1,1) lies below the tail, so (0,1) is valid, and
-- both come back; the book, which counts what is retired as committed, has them too.
pub master_before_commit :
    (seen (one_of_two ++ BARRIER ∷ []) (STORE 1) (0 ∷ [])
    ≡ record { refused = []; answer = (0, false); since = []; recovered = 0 ∷ []; in_book = 0 ∷ []; in_ledger = 0 ∷ [] })
    × (seen (one_of_two ++ BARRIER ∷ card (STORE 1) ∷ []) (RETIRE 1) (0 ∷ [])
    ≡ record { refused = []; answer = (40, true); since = commit (new_name 1 1) ∷ []; recovered = 2 ∷ []; in_book = 2 ∷ []; in_ledger = 2 ∷ [] })
unfolding drives
master_before_commit = (refl, refl)

-- ---- 'between the home stores of a transaction, or of recovery, and its master store'
-- The home store is lost, and the journal is read from behind the image.
pub master_before_home : seen (one_committed ++ BARRIER ∷ card (CHECKPOINT 0) ∷ []) (RETIRE 0) (0 ∷ [])
    ≡ record { refused = []; answer = (40, true); since = home (new_name 0 1) ∷ []; recovered = 0 ∷ []; in_book = 1 ∷ []; in_ledger = 1 ∷ [] }
unfolding drives
master_before_home = refl

pub recovery_master_before_home : seen (one_committed ++ card CUT ∷ card RECOVER ∷ []) RECOVER (0 ∷ [])
    ≡ record { refused = []; answer = (40, true); since = restore ∷ []; recovered = 0 ∷ []; in_book = 1 ∷ []; in_ledger = 1 ∷ [] }
unfolding drives
recovery_master_before_home = refl

-- ---- no barrier is missing
-- The commit of (0,1) is lost; descriptor and data of (0,2) survive, at positions 3 and 4. After recovery the next number is 2 again.
abbrev number_again : List DriveCommand
number_again =
    format 1 2 ∷ write 0 0 1 ∷ commits 0 1 ++ write 0 1 2 ∷ stores 0 2 ++ CUT_LOSING (0 ∷ []) ∷ card RECOVER ∷ BARRIER ∷ write 0 0 3 ∷ []

-- the numbers of the descriptors at positions 0 and 3, disk blocks 3 and 6
abbrev numbers_stored : List DriveCommand → List ℕ
numbers_stored ks = map (λ (p : ℕ). be4 (block_at (ran ks blank_run).drive.world.disk p) 8) (3 ∷ 6 ∷ [])

-- 'a later bearer of its number is another one': it commits, and is kept.
pub number_again_lem : (numbers_stored (number_again ++ commits 0 1) ≡ 2 ∷ 2 ∷ [])
    × (seen (number_again ++ commits 0 1) CUT []
    ≡ record { refused = []; answer = (0, false); since = commit (new_name 0 2) ∷ []; recovered = 3 ∷ 0 ∷ []; in_book = 3 ∷ 0 ∷ []; in_ledger = 3 ∷ 0 ∷ [] })
unfolding drives
number_again_lem = (refl, refl)

-- A torn record, that of (0,2): its descriptor is lost, its data survives.
pub data_without_descriptor : seen (one_committed ++ BARRIER ∷ write 0 0 2 ∷ stores 0 1) (STORE 0) (0 ∷ [])
    ≡ record { refused = []; answer = (0, false); since = record_part 0 ∷ []; recovered = 1 ∷ []; in_book = 1 ∷ []; in_ledger = 1 ∷ [] }
unfolding drives
data_without_descriptor = refl
