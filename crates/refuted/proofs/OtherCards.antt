-- Other wrong cards, by the rule that they break, and wrong readings, each refuted by a tape that is computed.
use mathlib.Core.Path.{◌≡◌, refl}
use mathlib.Core.List.{◌++◌}
use lib.ListN.{get_or}
use Rattle.model.specs.Valid.{in_sequence}
use Rattle.model.specs.Bytes.{Bytes}
use Rattle.model.specs.Layout.{mark}
use Rattle.model.specs.Step.{step_at}
use Rattle.crash.specs.Claims.{Claim, Demands, Readings}
use Rattle.refuted.specs.Parts.{on_tape, ignoring}
use Rattle.refuted.specs.Wrong.{tail_one_above, tail_kept, stamps_go_on, validity_one_deep, all_committed_valid, highest_first, flag_ignored, cut_keeps_place, cut_keeps_memory, writer_takes_running, only_writer_names, only_holder_names, not_loaded, no26_on_open, only26_stored, stamp_at_open, stamp_at_commit, no_escape, stores_images, no_wrap, retires_at_once, home_from_memory, holder_stays, refusal_overwrites, from_home, from_memory, exchanged, hands_while_down, never_refuses}
use Rattle.refuted.proofs.Checks.{refutes_claim, refutes_demands, refutes_readings, unchanged, bytes_check, left_in_memory}
use Rattle.refuted.proofs.Tapes.{tests, end_of, format, write, write_word, close, stores, checkpoints, retires, cut, recovers, lost_writer, one_kept}

-- ---- tails and stamps after recovery
pub tail_one_above_lem : Demands in_sequence (on_tape tail_one_above) → ⊥
unfolding tests
tail_one_above_lem = refutes_demands in_sequence (on_tape tail_one_above) bytes_check one_kept refl

pub tail_kept_lem : Demands in_sequence (on_tape tail_kept) → ⊥
unfolding tests
tail_kept_lem = refutes_demands in_sequence (on_tape tail_kept) bytes_check (format 1 1 4 ++ cut ++ recovers 1) refl

pub stamps_go_on_lem : Demands in_sequence (on_tape stamps_go_on) → ⊥
unfolding tests
stamps_go_on_lem =
    refutes_demands in_sequence (on_tape stamps_go_on) bytes_check
    (format 1 1 4 ++ write 0 0 0 1 ++ close 0 ++ cut ++ recovers 1 ++ write 0 0 0 2 ++ close 0 ++ stores 0 3)
    refl

-- ---- recovery
pub validity_one_deep_lem : Claim in_sequence (on_tape validity_one_deep) → ⊥
unfolding tests
validity_one_deep_lem = refutes_claim in_sequence (on_tape validity_one_deep) lost_writer refl

-- Core 1 writes into core 0's block and is lost, core 0 commits.
abbrev tied_lost : Bytes
tied_lost = format 2 1 4 ++ write 0 0 0 1 ++ write 1 0 4 2 ++ close 0 ++ stores 0 3 ++ cut ++ recovers 2

pub all_committed_valid_lem : Claim in_sequence (on_tape all_committed_valid) → ⊥
unfolding tests
all_committed_valid_lem = refutes_claim in_sequence (on_tape all_committed_valid) tied_lost refl

pub highest_first_lem : Demands in_sequence (on_tape highest_first) → ⊥
unfolding tests
highest_first_lem = refutes_demands in_sequence (on_tape highest_first) bytes_check (format 1 2 4 ++ write 0 0 0 1 ++ write 0 1 0 2 ++ close 0 ++ stores 0 4 ++ cut ++ recovers 1) refl

pub flag_ignored_lem : Claim in_sequence (on_tape flag_ignored) → ⊥
unfolding tests
flag_ignored_lem = refutes_claim in_sequence (on_tape flag_ignored) (format 1 1 4 ++ write_word 0 0 0 mark ++ close 0 ++ stores 0 3 ++ cut ++ recovers 2) refl

pub cut_keeps_place_lem : Demands in_sequence (on_tape cut_keeps_place) → ⊥
unfolding tests
cut_keeps_place_lem =
    refutes_demands in_sequence (on_tape cut_keeps_place) bytes_check
    (format 1 1 4 ++ write 0 0 0 1 ++ close 0 ++ stores 0 3 ++ cut ++ recovers 1 ++ cut ++ recovers 1)
    refl

-- ---- WRITE
-- Core 1 takes no block, so two stores commit it; this card counts three.
pub writer_takes_running_lem : Claim in_sequence (on_tape writer_takes_running) → ⊥
unfolding tests
writer_takes_running_lem =
    refutes_claim in_sequence (on_tape writer_takes_running)
    (format 2 1 4 ++ write 0 0 0 1 ++ write 1 0 4 2 ++ close 0 ++ stores 0 3 ++ close 1 ++ stores 1 2 ++ cut ++ recovers 1)
    refl

pub only_writer_names_lem : Claim in_sequence (on_tape only_writer_names) → ⊥
unfolding tests
only_writer_names_lem = refutes_claim in_sequence (on_tape only_writer_names) tied_lost refl

-- Core 1 commits a block of its own; core 0, whose block it wrote into, is lost.
pub only_holder_names_lem : Claim in_sequence (on_tape only_holder_names) → ⊥
unfolding tests
only_holder_names_lem =
    refutes_claim in_sequence (on_tape only_holder_names)
    (format 2 2 4 ++ write 0 0 0 1 ++ write 1 0 4 2 ++ write 1 1 0 3 ++ close 1 ++ stores 1 3 ++ cut ++ recovers 2)
    refl

-- After recovery a write of four bytes brings zeros beside them.
pub not_loaded_lem : Claim in_sequence (on_tape not_loaded) → ⊥
unfolding tests
not_loaded_lem =
    refutes_claim in_sequence (on_tape not_loaded)
    (format 1 1 4 ++ write 0 0 0 1 ++ close 0 ++ stores 0 3 ++ cut ++ recovers 2 ++ write 0 0 4 2 ++ close 0 ++ stores 0 3 ++ cut ++ recovers 2)
    refl

-- The descriptor of a transaction without blocks overwrites the committed record that fills the journal.
pub no_26_on_open : Claim in_sequence (on_tape no26_on_open) → ⊥
unfolding tests
no_26_on_open =
    refutes_claim in_sequence (on_tape no26_on_open)
    (format 2 3 4 ++ write 1 0 0 1 ++ write 1 1 0 2 ++ close 1 ++ stores 1 4 ++ write 0 2 0 3 ++ write 1 2 4 4 ++ close 1 ++ stores 1 1 ++ cut ++ recovers 1)
    refl

-- The second transaction of the core is let in, and its data overwrites the first one's descriptor.
pub only_26_stored : Claim in_sequence (on_tape only26_stored) → ⊥
unfolding tests
only_26_stored =
    refutes_claim in_sequence (on_tape only26_stored)
    (format 1 1 4 ++ write 0 0 0 1 ++ close 0 ++ write 0 0 4 2 ++ stores 0 3 ++ close 0 ++ stores 0 2 ++ cut ++ recovers 2)
    refl

-- ---- CLOSE
-- The three stores are of number 2, where the journal is read from number 1.
pub no_29 : Claim in_sequence (on_tape (ignoring 29)) → ⊥
unfolding tests
no_29 = refutes_claim in_sequence (on_tape (ignoring 29)) (format 1 2 6 ++ write 0 0 0 1 ++ close 0 ++ write 0 1 0 2 ++ close 0 ++ stores 0 3 ++ cut ++ recovers 1) refl

-- Core 0 opens first and takes core 1's closed block.
pub stamp_at_open_lem : Claim in_sequence (on_tape stamp_at_open) → ⊥
unfolding tests
stamp_at_open_lem =
    refutes_claim in_sequence (on_tape stamp_at_open)
    (format 2 2 4 ++ write 0 1 0 1 ++ write 1 0 0 2 ++ close 1 ++ write 0 0 4 3 ++ close 0 ++ stores 1 3 ++ stores 0 4 ++ cut ++ recovers 3)
    refl

-- Core 0 takes core 1's closed block and commits first.
pub stamp_at_commit_lem : Claim in_sequence (on_tape stamp_at_commit) → ⊥
unfolding tests
stamp_at_commit_lem =
    refutes_claim in_sequence (on_tape stamp_at_commit)
    (format 2 1 4 ++ write 1 0 0 1 ++ close 1 ++ write 0 0 4 2 ++ close 0 ++ stores 0 3 ++ stores 1 3 ++ cut ++ recovers 2)
    refl

-- ---- STORE
-- Block 1 is made to look like the commit of number 3. After recovery only the descriptor of number 3 is stored: with the
-- old bytes of both blocks behind it, it reads as a whole record.
pub no_escape_lem : Claim in_sequence (on_tape no_escape) → ⊥
unfolding tests
no_escape_lem =
    refutes_claim in_sequence (on_tape no_escape)
    (format 1 2 4 ++ write 0 0 0 1 ++ write_word 0 1 0 mark ++ write_word 0 1 4 2 ++ write_word 0 1 8 3 ++ write_word 0 1 16 1 ++ close 0 ++ stores 0 4 ++
    cut ++ recovers 3 ++ write 0 1 0 2 ++ close 0 ++ stores 0 1 ++ cut ++ recovers 2)
    refl

-- Core 1 writes into the closed block before its data is stored, and is lost.
pub stores_images_lem : Claim in_sequence (on_tape stores_images) → ⊥
unfolding tests
stores_images_lem =
    refutes_claim in_sequence (on_tape stores_images) (format 2 1 4 ++ write 0 0 0 1 ++ close 0 ++ stores 0 1 ++ write 1 0 4 2 ++ stores 0 2 ++ cut ++ recovers 2) refl

pub no_wrap_lem : Claim in_sequence (on_tape no_wrap) → ⊥
unfolding tests
no_wrap_lem =
    refutes_claim in_sequence (on_tape no_wrap)
    (format 1 1 4 ++ write 0 0 0 1 ++ close 0 ++ stores 0 3 ++ checkpoints 0 1 ++ retires 0 ++ write 0 0 4 2 ++ close 0 ++ stores 0 3 ++ cut ++ recovers 2)
    refl

-- ---- CHECKPOINT
-- Core 1 writes into core 0's block and is lost; core 0's image goes home all the same.
pub no_32 : Claim in_sequence (on_tape (ignoring 32)) → ⊥
unfolding tests
no_32 = refutes_claim in_sequence (on_tape (ignoring 32)) (format 2 1 4 ++ write 0 0 0 1 ++ write 1 0 4 2 ++ close 0 ++ stores 0 3 ++ checkpoints 0 1 ++ cut ++ recovers 1) refl

-- Core 0's later image goes home first, and recovery puts core 1's over it.
pub no_33 : Claim in_sequence (on_tape (ignoring 33)) → ⊥
unfolding tests
no_33 =
    refutes_claim in_sequence (on_tape (ignoring 33))
    (format 2 1 4 ++ write 1 0 0 1 ++ close 1 ++ stores 1 3 ++ write 0 0 4 2 ++ close 0 ++ stores 0 3 ++ checkpoints 0 1 ++ retires 0 ++ cut ++ recovers 2)
    refl

pub retires_at_once_lem : Claim in_sequence (on_tape retires_at_once) → ⊥
unfolding tests
retires_at_once_lem = refutes_claim in_sequence (on_tape retires_at_once) (format 1 1 4 ++ write 0 0 0 1 ++ close 0 ++ stores 0 3 ++ checkpoints 0 1 ++ cut ++ recovers 1) refl

-- The second write is lost, and its bytes have gone home.
pub home_from_memory_lem : Claim in_sequence (on_tape home_from_memory) → ⊥
unfolding tests
home_from_memory_lem =
    refutes_claim in_sequence (on_tape home_from_memory) (format 1 1 6 ++ write 0 0 0 1 ++ close 0 ++ stores 0 3 ++ write 0 0 4 2 ++ checkpoints 0 1 ++ retires 0 ++ cut ++ recovers 1) refl

-- The next transaction names the retired one.
pub holder_stays_lem : Demands in_sequence (on_tape holder_stays) → ⊥
unfolding tests
holder_stays_lem =
    refutes_demands in_sequence (on_tape holder_stays) bytes_check
    (format 1 1 4 ++ write 0 0 0 1 ++ close 0 ++ stores 0 3 ++ checkpoints 0 1 ++ retires 0 ++ write 0 0 0 2 ++ close 0 ++ stores 0 3)
    refl

-- ---- memory
abbrev written_and_cut : Bytes
written_and_cut = format 1 1 4 ++ write 0 0 0 1 ++ cut

pub cut_keeps_memory_lem : Demands in_sequence (on_tape cut_keeps_memory) → ⊥
unfolding tests
cut_keeps_memory_lem = refutes_demands in_sequence (on_tape cut_keeps_memory) left_in_memory written_and_cut refl

-- the model's card leaves zeros there
pub cut_zeroes_memory : get_or (end_of written_and_cut).memory 0 9 ≡ 0
unfolding tests
cut_zeroes_memory = refl

-- A WRITE of a card that is down is refused with 22.
pub refusal_overwrites_lem : Demands in_sequence (on_tape refusal_overwrites) → ⊥
unfolding tests
refusal_overwrites_lem = refutes_demands in_sequence (on_tape refusal_overwrites) unchanged (format 1 1 4 ++ cut ++ write 0 0 0 1) refl

-- ---- reading
abbrev one_write : Bytes
one_write = format 1 1 4 ++ write 0 0 0 1

pub from_home_lem : Readings in_sequence from_home step_at → ⊥
unfolding tests
from_home_lem = refutes_readings in_sequence from_home step_at one_write refl

pub reading_exchanged : Readings in_sequence exchanged step_at → ⊥
unfolding tests
reading_exchanged = refutes_readings in_sequence exchanged step_at one_write refl

-- After recovery the block has no holder, and memory is still zero.
pub from_memory_lem : Readings in_sequence from_memory step_at → ⊥
unfolding tests
from_memory_lem = refutes_readings in_sequence from_memory step_at one_kept refl

pub hands_while_down_lem : Readings in_sequence hands_while_down step_at → ⊥
unfolding tests
hands_while_down_lem = refutes_readings in_sequence hands_while_down step_at (format 1 1 4 ++ cut) refl

pub never_refuses_lem : Readings in_sequence never_refuses step_at → ⊥
unfolding tests
never_refuses_lem = refutes_readings in_sequence never_refuses step_at (format 1 1 4) refl
