-- Demand 1, number by number: 'Each is answered under its condition and under no other'.
-- A card that does not ask for a condition, and one that answers a number always, are refuted by tables that are computed.
use Prim.Native.Nat.{ℕ}
use mathlib.Core.Path.{◌≡◌, refl}
use mathlib.Core.Bool.{Bool, true, not, ◌&&◌}
use mathlib.Core.List.{List, [], ◌∷◌, ◌++◌, flat_map, Memᴰ}
use borrow.Author.Tests.{not-true}
use Rattle.model.specs.Valid.{in_sequence}
use Rattle.model.specs.Lists.{below, all}
use Rattle.model.specs.Bytes.{Bytes, zero_disk, zero_memory}
use Rattle.model.specs.Shape.{new_shape}
use Rattle.model.specs.Card.{new_tail, fresh_card, blank_card, down_card}
use Rattle.model.specs.Command.{World}
use Rattle.model.specs.Tape.{Step, TapeStep, run}
use Rattle.model.specs.Step.{DecidesEach}
use Rattle.model.specs.Printing.{blank_world}
use Rattle.model.specs.declared.Phase.TheVariants.{Up}
use Rattle.model.proofs.Lists.{all_mem}
use Rattle.crash.specs.Ledger.{blank_ledger}
use Rattle.crash.specs.Claims.{Demands}
use Rattle.crash.proofs.Books.Tests.{clash}
use Rattle.refuted.specs.Parts.{on_tape, ignoring, ignoring_at, refusing}
use Rattle.refuted.proofs.Checks.{answer_test, answer_check, holds, decides_test, decides, are_bytes, refutes_demands}
use Rattle.refuted.proofs.Tapes.{tests, format, write, report, close, stores, checkpoints, retires, cut, recovers, four_reports}

unfoldable fails_answers : Step World → Bytes → Bool
fails_answers f t = are_bytes t && not (holds answer_test (blank_ledger in_sequence) blank_world (run (on_tape f) t blank_world))

-- ---- under its condition: of each number a tape whose last command meets it
abbrev pub condition_tapes : List (ℕ × Bytes)
condition_tapes =
    (4, format 9 1 4)
    ∷ (5, format 1 1 4 ++ write 1 0 0 1)
    ∷ (6, format 1 1 4 ++ write 0 1 0 1)
    ∷ (7, format 1 1 4 ++ write 0 0 125 1)
    ∷ (20, write 0 0 0 1)
    ∷ (21, format 1 1 4 ++ format 1 1 4)
    ∷ (22, format 1 1 4 ++ cut ++ write 0 0 0 1)
    ∷ (23, format 1 1 4 ++ recovers 1)
    ∷ (25, format 1 9 11 ++ flat_map (λ (b : ℕ). write 0 b 0 1) (below 9))
    ∷ (26, format 1 3 4 ++ flat_map (λ (b : ℕ). write 0 b 0 1) (below 3))
    ∷ (28, format 1 1 4 ++ close 0)
    ∷ (29, format 1 1 6 ++ write 0 0 0 1 ++ close 0 ++ write 0 0 0 2 ++ close 0)
    ∷ (30, format 1 1 4 ++ stores 0 1)
    ∷ (31, format 1 1 4 ++ checkpoints 0 1)
    ∷ (32, format 2 1 4 ++ write 0 0 0 1 ++ write 1 0 4 2 ++ close 0 ++ stores 0 3 ++ checkpoints 0 1)
    ∷ (33, format 2 1 4 ++ write 1 0 0 1 ++ close 1 ++ stores 1 3 ++ write 0 0 4 2 ++ close 0 ++ stores 0 3 ++ checkpoints 0 1)
    ∷ (34, format 1 1 10 ++ write 0 0 0 1 ++ close 0 ++ stores 0 3 ++ retires 0)
    ∷ (35, format 1 1 10 ++ write 0 0 0 1 ++ close 0 ++ stores 0 3 ++ checkpoints 0 2)
    ∷ (36, four_reports)
    ∷ []

conditions_fail : all (λ (e : ℕ × Bytes). fails_answers (ignoring e.0) e.1) condition_tapes ≡ true
unfolding tests fails_answers
conditions_fail = refl

pub each_condition : (e : ℕ × Bytes) → Memᴰ e condition_tapes → Demands in_sequence (on_tape (ignoring e.0)) → ⊥
unfolding fails_answers
each_condition e m = refutes_demands in_sequence (on_tape (ignoring e.0)) answer_check e.1 (all_mem _ condition_tapes conditions_fail m)

-- 1 and 8 need other slices than runs start from, 2 and 3 are the tape's, and 27 needs numbers as `CapMissing` does: of each one
-- command that meets it, with its world
abbrev pub one_command : List (ℕ × Bytes × World)
one_command =
    (1, format 1 1 4, record { card = blank_card; disk = []; memory = zero_memory })
    ∷ (2, 0 ∷ [], blank_world)
    ∷ (3, 1 ∷ [], blank_world)
    ∷ (8, recovers 1, record { card = down_card; disk = zero_disk; memory = zero_memory })
    ∷ (27, write 0 0 0 1, record { card = fresh_card Up (new_shape 1 1 4) (new_tail 4000000001 0 ∷ []); disk = zero_disk; memory = zero_memory })
    ∷ []

unfoldable fails_one : TapeStep World → Bytes → World → Bool
fails_one f t w = not (decides_test in_sequence f t w)

commands_fail : all (λ (e : ℕ × Bytes × World). fails_one (ignoring_at e.0) e.1 e.2) one_command ≡ true
unfolding tests fails_one
commands_fail = refl

pub each_decided : (e : ℕ × Bytes × World) → Memᴰ e one_command → DecidesEach in_sequence (ignoring_at e.0) → ⊥
unfolding fails_one
each_decided e m h = clash (decides in_sequence (ignoring_at e.0) h e.1 e.2) (not-true _ (all_mem _ one_command commands_fail m))

-- ---- under no other: 'that shuts out a card that refuses every WRITE'. Each command with a number that it may answer.
abbrev pub always_refused : List (ℕ × ℕ)
always_refused = (1, 4) ∷ (2, 26) ∷ (3, 28) ∷ (4, 30) ∷ (5, 32) ∷ (5, 35) ∷ (6, 20) ∷ (7, 8) ∷ (8, 34) ∷ (9, 36) ∷ []

-- all nine commands are done
abbrev pub all_done : Bytes
all_done = format 1 1 10 ++ write 0 0 0 1 ++ report 0 0 4 2 ++ close 0 ++ stores 0 3 ++ checkpoints 0 1 ++ retires 0 ++ cut ++ recovers 1

always_fail : all (λ (e : ℕ × ℕ). fails_answers (refusing e.0 e.1) all_done) always_refused ≡ true
unfolding tests fails_answers
always_fail = refl

pub each_command : (e : ℕ × ℕ) → Memᴰ e always_refused → Demands in_sequence (on_tape (refusing e.0 e.1)) → ⊥
unfolding fails_answers
each_command e m = refutes_demands in_sequence (on_tape (refusing e.0 e.1)) answer_check all_done (all_mem _ always_refused always_fail m)
