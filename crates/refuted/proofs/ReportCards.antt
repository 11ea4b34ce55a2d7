-- Paper 02, (h): wrong cards, each refuted by a tape that is computed; where 36 is answered and where not; the answers along a tape.
use Prim.Native.Nat.{ℕ}
use mathlib.Core.Path.{◌≡◌, refl}
use mathlib.Core.List.{List, [], ◌∷◌, ◌++◌, map, flat_map}
use Rattle.model.specs.Lists.{below}
use Rattle.model.specs.Bytes.{Bytes}
use Rattle.model.specs.Valid.{in_sequence}
use Rattle.model.specs.Command.{World}
use Rattle.model.specs.Tape.{WRITE, report_task, Point, run}
use Rattle.model.specs.Step.{step_at}
use Rattle.model.specs.Printing.{blank_world}
use Rattle.crash.specs.Claims.{Claim, Demands}
use Rattle.crash.specs.ReportLimit.{ReportLimit}
use Rattle.refuted.specs.Parts.{on_tape, ignoring}
use Rattle.refuted.specs.WrongReport.{from_four, free_alone, held_too, running_too, lamp_too, after26, unnamed_closed}
use Rattle.refuted.proofs.Checks.{blank_start, blank_fits, few_passed, refutes_claim, refutes_demands, answer_check}
use Rattle.refuted.proofs.Tapes.{tests, end_of, numbers_and_answer, format, write, report, reports, close, stores, cut, recovers, four_reports}

-- ---- how many
-- At the fifth command the transaction gets its fourth block. (That the card also answers otherwise: `Refusals` `each_condition`.)
pub no_36_limit : ReportLimit in_sequence (on_tape (ignoring 36)) → ⊥
unfolding tests
no_36_limit k =
    few_passed (0 ∷ 1 ∷ 2 ∷ []) (0 ∷ 1 ∷ 2 ∷ 3 ∷ []) refl
    ((k four_reports refl blank_start blank_fits).1.1.1.1.0 0 3 0 (1 ∷ 1 ∷ 1 ∷ 1 ∷ []) refl refl)

pub from_four_lem : Demands in_sequence (on_tape from_four) → ⊥
unfolding tests
from_four_lem = refutes_demands in_sequence (on_tape from_four) answer_check four_reports refl

-- ---- which blocks
-- Block 3 is held by a closed transaction of core 0.
pub free_alone_lem : Demands in_sequence (on_tape free_alone) → ⊥
unfolding tests
free_alone_lem =
    refutes_demands in_sequence (on_tape free_alone) answer_check (format 1 4 10 ++ write 0 3 0 1 ++ close 0 ++ reports 4) refl

pub held_too_lem : Demands in_sequence (on_tape held_too) → ⊥
unfolding tests
held_too_lem = refutes_demands in_sequence (on_tape held_too) answer_check (format 1 3 10 ++ reports 3 ++ report 0 0 0 2) refl

-- Block 3 is held by a running transaction of core 1.
pub running_too_lem : Demands in_sequence (on_tape running_too) → ⊥
unfolding tests
running_too_lem = refutes_demands in_sequence (on_tape running_too) answer_check (format 2 4 10 ++ write 1 3 0 1 ++ reports 4) refl

-- ---- whose, and when
pub lamp_too_lem : Demands in_sequence (on_tape lamp_too) → ⊥
unfolding tests
lamp_too_lem = refutes_demands in_sequence (on_tape lamp_too) answer_check (format 1 4 10 ++ reports 3 ++ write 0 3 0 1) refl

-- three blocks closed and three taken fill the journal
abbrev full_journal : Bytes
full_journal = format 1 4 10 ++ reports 3 ++ close 0 ++ reports 3

pub after_26 : Demands in_sequence (on_tape after26) → ⊥
unfolding tests
after_26 = refutes_demands in_sequence (on_tape after26) answer_check (full_journal ++ report 0 3 0 1) refl

-- ---- what a cut brings back
-- Core 1 takes the block of core 0's closed transaction, which is lost, and commits.
pub unnamed_closed_lem : Claim in_sequence (on_tape unnamed_closed) → ⊥
unfolding tests
unnamed_closed_lem =
    refutes_claim in_sequence (on_tape unnamed_closed)
    (format 2 1 10 ++ write 0 0 0 1 ++ close 0 ++ report 1 0 4 2 ++ close 1 ++ stores 1 3 ++ cut ++ recovers 2)
    refl

-- ---- where 36 is answered: for each of these blocks the numbers whose conditions hold of a byte 9 of core 0, and the answer
abbrev reported : List ℕ → World → List (List ℕ × ℕ)
reported bs w = map (λ (b : ℕ). numbers_and_answer (WRITE report_task 0 b 0 (2 ∷ 2 ∷ 2 ∷ 2 ∷ [])) w) bs

-- command 2 has taken eight blocks
abbrev eight_taken : Bytes
eight_taken = format 1 9 10 ++ flat_map (λ (b : ℕ). write 0 b 0 1) (below 8)

-- core 0 has three blocks, 0 to 2; a closed one of core 0 holds 3, a closed one of core 1 holds 4, a running one of core 1 holds 5
abbrev every_holder : Bytes
every_holder = format 2 7 10 ++ write 0 3 0 1 ++ close 0 ++ write 1 4 0 1 ++ close 1 ++ write 1 5 0 1 ++ reports 3

pub report_order :
    (reported (8 ∷ 0 ∷ []) (end_of eight_taken) ≡ (25 ∷ 36 ∷ [], 25) ∷ ([], 0) ∷ [])
    × (reported (3 ∷ []) (end_of full_journal) ≡ (36 ∷ 26 ∷ [], 36) ∷ [])
    × (reported (0 ∷ 3 ∷ 4 ∷ 5 ∷ 6 ∷ []) (end_of every_holder) ≡ ([], 0) ∷ (36 ∷ [], 36) ∷ (36 ∷ [], 36) ∷ ([], 0) ∷ (36 ∷ [], 36) ∷ [])
unfolding tests
report_order = (refl, refl, refl)

-- ---- along a tape: three blocks, a fourth refused, one of them again; command 2 takes a fourth, byte 9 writes it and takes no fifth
abbrev reference_tape : Bytes
reference_tape = format 1 9 24 ++ reports 4 ++ report 0 1 0 1 ++ write 0 3 0 1 ++ report 0 3 0 1 ++ report 0 4 0 1

pub reference_answers :
    map (λ (p : Point World). p.outcome.answer) (run step_at reference_tape blank_world) ≡ 0 ∷ 0 ∷ 0 ∷ 0 ∷ 36 ∷ 0 ∷ 0 ∷ 0 ∷ 36 ∷ []
unfolding tests
reference_answers = refl
