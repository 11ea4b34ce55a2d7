-- The claims are not empty: computed runs on which the card comes up with kept writes, also after a cut inside recovery.
-- In one of them a transaction is committed and not kept, so kept is less than committed.
-- Each is one computed fact over the definitions.
use Prim.Native.Nat.{ℕ}
use mathlib.Core.Path.{◌≡◌, refl}
use mathlib.Core.Bool.{Bool, not, ◌&&◌}
use mathlib.Core.List.{List, [], ◌∷◌, ◌++◌, map}
use lib.ListN.{length, take}
use lib.Dec.{eqb}
use Rattle.model.specs.Lists.{select}
use Rattle.model.specs.Bytes.{Bytes, part}
use Rattle.model.specs.Reading.{read_number}
use Rattle.model.specs.Tape.{Point, run, CLOSE, CUT, Command, FORMAT, RECOVER, STORE}
use Rattle.model.specs.Printing.{blank_world}
use Rattle.model.proofs.Computes.{computes}
use Rattle.crash.specs.Book.{committed_in, kept}
use Rattle.crash.specs.Service.{Service, empty_service}
use Rattle.crash.specs.Ledger.{Ledger, blank_ledger, fresh_ledger, image_now, close_ledger, unretired, met_in, valid_in, blocks_in, cut_ledger, recover_ledger, entered, carried_out}
use Rattle.crash.proofs.Books.BookExamples.{write, commits, books}
use Rattle.model.specs.Card.{new_name}
use Rattle.crash.specs.Claims.{fed_point}
use Rattle.model.specs.Recovery.{home_area}
use Rattle.model.specs.Command.{World}
use Rattle.model.specs.Step.{step_at, step_at_by}
use Rattle.model.specs.Valid.{Order, unordered, in_sequence}

-- a RECOVER that leaves the card up
abbrev comes_up : Point World → Bool
comes_up p = eqb p.byte 7 && eqb p.outcome.answer 0 && eqb (read_number 0 p.before) 22 && not (eqb (read_number 0 p.outcome.world) 22)

-- the first eight bytes of home block 3 wherever the card comes up
abbrev block_three : Bytes → List Bytes
block_three t = map (λ (p : Point World). part 384 8 (home_area 4 p.outcome.world)) (select comes_up (run step_at t blank_world))

-- P1 up to the last STORE but one, and that STORE
abbrev before : Bytes
before =
    1 ∷ 2 ∷ 4 ∷ 12 ∷ 2 ∷ 0 ∷ 0 ∷ 3 ∷ 0 ∷ 0x41 ∷ 0x42 ∷ 0x43 ∷ 0x44 ∷ 2 ∷ 1 ∷ 0 ∷ 3 ∷ 4 ∷ 0x45 ∷ 0x46 ∷ 0x47 ∷ 0x48 ∷
    3 ∷ 0 ∷ 4 ∷ 0 ∷ 4 ∷ 0 ∷ 4 ∷ 0 ∷ 5 ∷ 0 ∷ 3 ∷ 1 ∷ 4 ∷ 1 ∷ []

abbrev written : Bytes
written = 0x41 ∷ 0x42 ∷ 0x43 ∷ 0x44 ∷ 0x45 ∷ 0x46 ∷ 0x47 ∷ 0x48 ∷ []

pub comes_up_with_writes : block_three (before ++ (4 ∷ 1 ∷ 6 ∷ 7 ∷ 7 ∷ [])) ≡ written ∷ []
unfolding computes home_area
comes_up_with_writes = refl

pub cut_inside_recovery : block_three (before ++ (4 ∷ 1 ∷ 6 ∷ 7 ∷ 6 ∷ 7 ∷ 7 ∷ [])) ≡ written ∷ []
unfolding computes home_area
cut_inside_recovery = refl

-- without the last STORE core 1's transaction, which core 0's names, is not committed
pub comes_up_without : block_three (before ++ (6 ∷ 7 ∷ [])) ≡ (0 ∷ 0 ∷ 0 ∷ 0 ∷ 0 ∷ 0 ∷ 0 ∷ 0 ∷ []) ∷ []
unfolding computes home_area
comes_up_without = refl

-- As before, then core 0's second transaction writes block 2 and commits. 'No order is implied between transactions of one core':
-- block 2 comes back, and block 3 with the first one's write does not. In sequence neither does.
abbrev later_back : Order → List Bytes
later_back o =
    map (λ (p : Point World). part 256 4 (home_area 4 p.outcome.world) ++ part 384 4 (home_area 4 p.outcome.world))
    (select comes_up (run (step_at_by o) (before ++ (2 ∷ 0 ∷ 0 ∷ 2 ∷ 0 ∷ 9 ∷ 9 ∷ 9 ∷ 9 ∷ 3 ∷ 0 ∷ 4 ∷ 0 ∷ 4 ∷ 0 ∷ 4 ∷ 0 ∷ 6 ∷ 7 ∷ 7 ∷ [])) blank_world))

pub later_comes_back : (later_back unordered ≡ (9 ∷ 9 ∷ 9 ∷ 9 ∷ 0 ∷ 0 ∷ 0 ∷ 0 ∷ []) ∷ []) × (later_back in_sequence ≡ (0 ∷ 0 ∷ 0 ∷ 0 ∷ 0 ∷ 0 ∷ 0 ∷ 0 ∷ []) ∷ [])
unfolding computes home_area
later_comes_back = (refl, refl)

abbrev fed_all : Service → List (Point World) → Service
fed_all v [] = v
fed_all v (p ∷ ps) = fed_all (fed_point p v) ps

-- how many the book has as committed, and how many it keeps
abbrev counts : Service → List ℕ
counts v = length (committed_in v.book) ∷ length (kept v.book) ∷ []

pub committed_not_kept : counts (fed_all (empty_service in_sequence 0) (run step_at before blank_world)) ≡ 1 ∷ 0 ∷ []
unfolding books fed_point
committed_not_kept = refl

-- ---- the ledger, after a recovery: numbers go on two above
abbrev ledgered : Ledger → List Command → Ledger
ledgered l [] = l
ledgered l (k ∷ ks) = ledgered (entered k 0 l) ks

-- number 3 is closed
abbrev after_recovery : Ledger
after_recovery = ledgered (blank_ledger in_sequence) (FORMAT 1 1 8 ∷ write 0 0 1 ∷ commits 0 ++ CUT ∷ RECOVER ∷ RECOVER ∷ write 0 4 2 ∷ CLOSE 0 ∷ [])

-- its image has the bytes from before the cut, under the new write
pub image_has_its_base : map (take 8) (after_recovery.images (new_name 0 3)) ≡ (1 ∷ 1 ∷ 1 ∷ 1 ∷ 2 ∷ 2 ∷ 2 ∷ 2 ∷ []) ∷ []
unfolding books blank_ledger fresh_ledger image_now close_ledger unretired met_in valid_in blocks_in cut_ledger recover_ledger carried_out entered
image_has_its_base = refl

-- committed, it is kept: it is the first since the card came up, and number 2 was never borne
pub first_since_recovery : kept (ledgered after_recovery (STORE 0 ∷ STORE 0 ∷ STORE 0 ∷ [])).book ≡ new_name 0 3 ∷ []
unfolding books blank_ledger fresh_ledger image_now close_ledger unretired met_in valid_in blocks_in cut_ledger recover_ledger carried_out entered
first_since_recovery = refl
