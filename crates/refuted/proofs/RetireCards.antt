-- Paper 02, (g): wrong cards, each refuted by a tape that is computed; and which of two refusals is answered where both conditions hold.
use mathlib.Core.Path.{◌≡◌, refl}
use mathlib.Core.List.{[], ◌∷◌, ◌++◌}
use Rattle.model.specs.Bytes.{Bytes}
use Rattle.model.specs.Valid.{in_sequence}
use Rattle.model.specs.Tape.{CHECKPOINT, RETIRE}
use Rattle.crash.specs.Claims.{Claim, Demands}
use Rattle.crash.specs.Spans.{Spans}
use Rattle.refuted.specs.Parts.{on_tape, ignoring}
use Rattle.refuted.specs.WrongRetire.{retire_ignoring, checkpoint_retires, retires_with_last, counts_home_alone}
use Rattle.refuted.proofs.Checks.{refutes_claim, refutes_demands, refutes_spans, answer_check, count_check, bytes_check}
use Rattle.refuted.proofs.Tapes.{tests, end_of, numbers_and_answer, format, write, close, stores, checkpoints, retires, cut, recovers}

-- ---- RETIRE
-- It is retired before its image is at home.
pub no_34 : Claim in_sequence (on_tape (retire_ignoring 34)) → ⊥
unfolding tests
no_34 =
    refutes_claim in_sequence (on_tape (retire_ignoring 34))
    (format 1 1 10 ++ write 0 0 0 1 ++ close 0 ++ stores 0 3 ++ retires 0 ++ cut ++ recovers 2)
    refl

-- Core 1's transaction took no block and is tied to core 0's, which is not committed.
abbrev tied_without_block : Bytes
tied_without_block = format 2 2 12 ++ write 0 0 0 1 ++ write 1 0 4 2 ++ close 1 ++ stores 1 2

-- Core 0's is lost. Where core 1's is retired all the same, core 1's next one comes back by itself.
pub retire_no_32 : Claim in_sequence (on_tape (retire_ignoring 32)) → ⊥
unfolding tests
retire_no_32 =
    refutes_claim in_sequence (on_tape (retire_ignoring 32))
    (tied_without_block ++ retires 1 ++ write 1 1 0 3 ++ close 1 ++ stores 1 3 ++ cut ++ recovers 2)
    refl

-- ---- CHECKPOINT
-- block 1 is committed and stored home
abbrev home_done : Bytes
home_done = format 1 2 10 ++ write 0 1 0 1 ++ close 0 ++ stores 0 3 ++ checkpoints 0 1

pub checkpoint_retires_lem : Demands in_sequence (on_tape checkpoint_retires) → ⊥
unfolding tests
checkpoint_retires_lem = refutes_demands in_sequence (on_tape checkpoint_retires) answer_check (home_done ++ checkpoints 0 1) refl

pub retires_with_last_lem : Demands in_sequence (on_tape retires_with_last) → ⊥
unfolding tests
retires_with_last_lem = refutes_demands in_sequence (on_tape retires_with_last) count_check home_done refl

-- One store home too many: the block behind the last image, which is the commit, goes to block 0.
pub no_35_answer : Demands in_sequence (on_tape (ignoring 35)) → ⊥
unfolding tests
no_35_answer = refutes_demands in_sequence (on_tape (ignoring 35)) answer_check (home_done ++ checkpoints 0 1) refl

pub no_35 : Claim in_sequence (on_tape (ignoring 35)) → ⊥
unfolding tests
no_35 = refutes_claim in_sequence (on_tape (ignoring 35)) (home_done ++ checkpoints 0 1 ++ cut ++ recovers 2) refl

-- The image is not at home, and RETIRE moves the tail past it: recovery gives zeros.
abbrev home_counted : Bytes
home_counted = format 1 1 10 ++ write 0 0 0 1 ++ close 0 ++ stores 0 3 ++ checkpoints 0 1

pub counts_home_alone_lem : Spans (on_tape counts_home_alone) → ⊥
unfolding tests
counts_home_alone_lem = refutes_spans (on_tape counts_home_alone) (RETIRE 0 ∷ []) home_counted refl

pub counts_home_alone_store : Demands in_sequence (on_tape counts_home_alone) → ⊥
unfolding tests
counts_home_alone_store = refutes_demands in_sequence (on_tape counts_home_alone) bytes_check home_counted refl

-- ---- 'RETIRE .. tests 31, 32, 33, then 34 ..; CHECKPOINT tests 31, 32, 33, then 35': the numbers whose conditions hold, and the answer
-- core 0's transaction is tied to core 1's, which runs
abbrev tied_with_block : Bytes
tied_with_block = format 2 1 10 ++ write 0 0 0 1 ++ write 1 0 4 2 ++ close 0 ++ stores 0 3

-- core 0's took the block of core 1's, which is committed
abbrev lower_committed : Bytes
lower_committed = format 2 1 10 ++ write 1 0 0 1 ++ close 1 ++ stores 1 3 ++ write 0 0 4 2 ++ close 0 ++ stores 0 3

pub retire_order : (numbers_and_answer (RETIRE 0) (end_of tied_with_block) ≡ (32 ∷ 34 ∷ [], 32)) × (numbers_and_answer (RETIRE 0) (end_of lower_committed) ≡ (33 ∷ 34 ∷ [], 33))
unfolding tests
retire_order = (refl, refl)

pub checkpoint_order : numbers_and_answer (CHECKPOINT 1) (end_of tied_without_block) ≡ (32 ∷ 35 ∷ [], 32)
unfolding tests
checkpoint_order = refl
