-- Paper 02, (c): cards that read it wrong, each refuted by a tape that is computed; the card of each rule fails the claim of the
-- other; and what both print.
use Prim.Native.Nat.{ℕ}
use mathlib.Core.Path.{◌≡◌, refl}
use mathlib.Core.List.{List, [], ◌∷◌, ◌++◌, map}
use lib.ListN.{drop}
use Rattle.model.specs.Bytes.{Bytes}
use Rattle.model.specs.Valid.{Order, unordered, in_sequence}
use Rattle.model.specs.Step.{step_at_by}
use Rattle.model.specs.Printing.{Line}
use Rattle.model.specs.Cases.{Case, outcome_of, cases}
use Rattle.model.proofs.Computes.{computes}
use Rattle.crash.specs.Claims.{Claim, Demands}
use Rattle.refuted.specs.Parts.{on_tape}
use Rattle.refuted.specs.WrongOrder.{in_recovery_alone, in_running_alone, one_round, asked_below_tail}
use Rattle.refuted.proofs.Checks.{refutes_claim, refutes_demands, answer_check}
use Rattle.refuted.proofs.Tapes.{tests, format, write, close, stores, checkpoints, retires, cut, recovers, linked}

-- ---- 'claimed for tapes run under one of the two rules throughout'
-- (0,1) is stored home in running, by the old rule; recovery, by the new, keeps neither it nor (1,2), which it names. The old book
-- keeps both, the new one none.
pub in_recovery_alone_lem : (o : Order) → Claim o (on_tape in_recovery_alone) → ⊥
unfolding tests
in_recovery_alone_lem unordered = refutes_claim unordered (on_tape in_recovery_alone) linked refl
in_recovery_alone_lem in_sequence = refutes_claim in_sequence (on_tape in_recovery_alone) linked refl

-- (0,1) names (1,1), which is lost; (0,2) names none
abbrev later_alone : Bytes
later_alone = format 2 2 5 ++ write 1 0 0 1 ++ write 0 0 4 2 ++ close 0 ++ stores 0 2 ++ write 0 1 0 3 ++ close 0 ++ stores 0 3 ++ cut ++ recovers 2

pub in_running_alone_lem : Claim in_sequence (on_tape in_running_alone) → ⊥
unfolding tests
in_running_alone_lem = refutes_claim in_sequence (on_tape in_running_alone) later_alone refl

-- by the old rule it only refuses more: an answer is wrong
pub in_running_alone_answer : Demands unordered (on_tape in_running_alone) → ⊥
unfolding tests
in_running_alone_answer = refutes_demands unordered (on_tape in_running_alone) answer_check linked refl

-- ---- the card of one rule and the claim of the other: (0,2) comes back without (0,1), or is missing. (With one number for each core the
-- old rule's card fails the claim of its own too: `NumberCards`.)
pub old_card : Claim in_sequence (step_at_by unordered) → ⊥
unfolding tests
old_card = refutes_claim in_sequence (step_at_by unordered) later_alone refl

pub new_card : Claim unordered (step_at_by in_sequence) → ⊥
unfolding tests
new_card = refutes_claim unordered (step_at_by in_sequence) later_alone refl

-- CHECKPOINT 0 is done by the old rule and gives 32 by the new
pub old_card_answer : Demands in_sequence (step_at_by unordered) → ⊥
unfolding tests
old_card_answer = refutes_demands in_sequence (step_at_by unordered) answer_check linked refl

pub new_card_answer : Demands unordered (step_at_by in_sequence) → ⊥
unfolding tests
new_card_answer = refutes_demands unordered (step_at_by in_sequence) answer_check linked refl

-- ---- other readings
-- (0,1) as before, (0,2) and (0,3) name none: the one round strikes (0,2), and (0,3) comes back.
pub one_round_lem : Claim in_sequence (on_tape one_round) → ⊥
unfolding tests
one_round_lem =
    refutes_claim in_sequence (on_tape one_round)
    (format 2 3 8 ++ write 1 0 0 1 ++ write 0 0 4 2 ++ close 0 ++ stores 0 2 ++ write 0 1 0 3 ++ close 0 ++ stores 0 3 ++ write 0 2 0 4 ++ close 0 ++ stores 0 3 ++ cut ++ recovers 2)
    refl

-- The first number since a recovery is 2: the one before it lies below the tail, and there is none.
abbrev first_is_two : Bytes
first_is_two = format 1 1 4 ++ cut ++ recovers 1 ++ write 0 0 0 1 ++ close 0 ++ stores 0 3

pub asked_below_tail_lem : Claim in_sequence (on_tape asked_below_tail) → ⊥
unfolding tests
asked_below_tail_lem = refutes_claim in_sequence (on_tape asked_below_tail) (first_is_two ++ cut ++ recovers 1) refl

-- The one before is retired: (0,2) comes back with what (0,1) stored home.
pub retired_asked : Claim in_sequence (on_tape asked_below_tail) → ⊥
unfolding tests
retired_asked =
    refutes_claim in_sequence (on_tape asked_below_tail)
    (format 1 1 4 ++ write 0 0 0 1 ++ close 0 ++ stores 0 3 ++ checkpoints 0 1 ++ retires 0 ++ write 0 0 4 2 ++ close 0 ++ stores 0 3 ++ cut ++ recovers 2)
    refl

pub asked_below_tail_answer : Demands in_sequence (on_tape asked_below_tail) → ⊥
unfolding tests
asked_below_tail_answer = refutes_demands in_sequence (on_tape asked_below_tail) answer_check (first_is_two ++ checkpoints 0 1) refl

-- ---- computed: where the two cards differ, and where they do not
-- the answers from CHECKPOINT on, and the blocks printed: 32, and nothing comes back; or (0,1) and (1,2) do
abbrev linked_end : Order → List ℕ × List (ℕ × Bytes)
linked_end o = let p = (outcome_of o linked).prints in (drop 18 (map (λ (l : Line). l.answer) p.lines), p.homes)

pub linked_in_sequence : linked_end in_sequence ≡ (32 ∷ 0 ∷ 0 ∷ 23 ∷ [], [])
unfolding computes
linked_in_sequence = refl

pub linked_unordered : linked_end unordered ≡ (0 ∷ 0 ∷ 0 ∷ 0 ∷ [], (0, 4 ∷ 4 ∷ 4 ∷ 4 ∷ 0 ∷ 0 ∷ 0 ∷ 0 ∷ []) ∷ (1, 3 ∷ 3 ∷ 3 ∷ 3 ∷ 5 ∷ 5 ∷ 5 ∷ 5 ∷ []) ∷ [])
unfolding computes
linked_unordered = refl

-- P1 to P9 are the same under the old rule (under the new: `model`)
pub nine_cases_unordered : map (λ (c : Case). outcome_of unordered c.tape) cases ≡ cases
unfolding computes
nine_cases_unordered = refl
