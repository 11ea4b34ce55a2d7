-- Paper 02, (d): cards that read it wrong, each refuted by a tape that is computed; those that only a disk of another card tells apart,
-- by one RECOVER over it; and the rule before (c), under which the highest number is not enough.
use mathlib.Core.Path.{◌≡◌, refl}
use mathlib.Core.Bool.{true, not}
use mathlib.Core.List.{[], ◌∷◌, ◌++◌}
use lib.ListN.{replicate}
use borrow.Author.Tests.{not-true}
use Rattle.model.specs.Bytes.{Bytes, replaced, store, zero_memory}
use Rattle.model.specs.Shape.{journal_block}
use Rattle.model.specs.Card.{new_name, down_card}
use Rattle.model.specs.Layout.{new_tag, descriptor_block, list_commit_block}
use Rattle.model.specs.Valid.{unordered, in_sequence}
use Rattle.model.specs.Command.{World}
use Rattle.model.specs.Format.{formatted_disk}
use Rattle.model.specs.Step.{step_at_by, DecidesEach}
use Rattle.model.specs.declared.Shape.{Shape}
use Rattle.model.specs.declared.CommitLayout.TheVariants.{Lists, Numbers}
use Rattle.crash.specs.Claims.{Start, from_down, StartFits, Claim, Demands}
use Rattle.crash.proofs.Books.Tests.{clash}
use Rattle.refuted.specs.Parts.{on_tape}
use Rattle.refuted.specs.WrongNumbers.{last_named, first_named, own_left_out, formats_zero, retires_zero, recovers_zero, lists_always, zero_refused, layout_kept, numbers_always, other_taken}
use Rattle.refuted.proofs.Checks.{refutes_claim, refutes_demands, refutes_claim_from, refutes_demands_from, answer_check, bytes_check, decides_test, decides, leaves_test, leaves}
use Rattle.refuted.proofs.Tapes.{tests, format, write, close, stores, checkpoints, retires, cut, recovers}

-- ---- 'the highest number named for each core'
-- (0,1) names (1,2), which runs and is lost, then (1,1), which is closed.
abbrev higher_first : Bytes
higher_first =
    format 2 2 6 ++ write 1 0 0 1 ++ close 1 ++ write 1 1 0 2 ++ write 0 1 4 3 ++ write 0 0 4 4 ++ stores 1 3 ++ close 0 ++ stores 0 3

pub last_named_lem : Claim in_sequence (on_tape last_named) → ⊥
unfolding tests
last_named_lem = refutes_claim in_sequence (on_tape last_named) (higher_first ++ cut ++ recovers 2) refl

-- 33 is answered where 32 is due
pub last_named_answer : Demands in_sequence (on_tape last_named) → ⊥
unfolding tests
last_named_answer = refutes_demands in_sequence (on_tape last_named) answer_check (higher_first ++ checkpoints 0 1) refl

-- (0,1) names (1,1), which is committed, then (1,2), which is lost.
abbrev higher_last : Bytes
higher_last = format 2 1 4 ++ write 0 0 0 1 ++ write 1 0 4 2 ++ close 1 ++ write 1 0 8 3 ++ stores 1 2 ++ close 0 ++ stores 0 3

pub first_named_lem : Claim in_sequence (on_tape first_named) → ⊥
unfolding tests
first_named_lem = refutes_claim in_sequence (on_tape first_named) (higher_last ++ cut ++ recovers 2) refl

-- CHECKPOINT is done where 32 is due
pub first_named_answer : Demands in_sequence (on_tape first_named) → ⊥
unfolding tests
first_named_answer = refutes_demands in_sequence (on_tape first_named) answer_check (higher_last ++ checkpoints 0 1) refl

-- (0,2) takes the block of (0,1), which is committed. Demand 2 sees the number left out. No tape is known on which this card fails demand 1
-- or 3: under (c) the one before it on its core is asked for all the same.
pub own_left_out_lem : Demands in_sequence (on_tape own_left_out) → ⊥
unfolding tests
own_left_out_lem =
    refutes_demands in_sequence (on_tape own_left_out) bytes_check
    (format 1 1 6 ++ write 0 0 0 1 ++ close 0 ++ stores 0 3 ++ write 0 0 4 2 ++ close 0 ++ stores 0 3)
    refl

-- ---- 'Bytes 8 to 11 of a new master hold 1'
-- (0,1) names (1,1), which is lost. By lists its commit names none, and it comes back.
abbrev names_lost : Bytes
names_lost = write 0 0 0 1 ++ write 1 0 4 2 ++ close 0 ++ stores 0 3 ++ cut ++ recovers 2

pub formats_zero_lem : Claim in_sequence (on_tape formats_zero) → ⊥
unfolding tests
formats_zero_lem = refutes_claim in_sequence (on_tape formats_zero) (format 2 1 4 ++ names_lost) refl

-- the same of (0,2), once (0,1) is retired
pub retires_zero_lem : Claim in_sequence (on_tape retires_zero) → ⊥
unfolding tests
retires_zero_lem =
    refutes_claim in_sequence (on_tape retires_zero)
    (format 2 1 4 ++ write 0 0 0 1 ++ close 0 ++ stores 0 3 ++ checkpoints 0 1 ++ retires 0 ++ write 0 0 4 2 ++ write 1 0 8 3 ++ close 0 ++ stores 0 3 ++ cut ++ recovers 2)
    refl

-- 'the closing master store of that recovery writes 1': the first coming up is right, the second is not
pub recovers_zero_lem : Claim in_sequence (on_tape recovers_zero) → ⊥
unfolding tests
recovers_zero_lem = refutes_claim in_sequence (on_tape recovers_zero) (format 2 1 4 ++ cut ++ recovers 1 ++ names_lost) refl

-- demand 2 sees each at its first master
pub formats_zero_byte : Demands in_sequence (on_tape formats_zero) → ⊥
unfolding tests
formats_zero_byte = refutes_demands in_sequence (on_tape formats_zero) bytes_check (format 1 1 4) refl

pub retires_zero_byte : Demands in_sequence (on_tape retires_zero) → ⊥
unfolding tests
retires_zero_byte =
    refutes_demands in_sequence (on_tape retires_zero) bytes_check (format 1 1 4 ++ write 0 0 0 1 ++ close 0 ++ stores 0 3 ++ checkpoints 0 1 ++ retires 0) refl

pub recovers_zero_byte : Demands in_sequence (on_tape recovers_zero) → ⊥
unfolding tests
recovers_zero_byte = refutes_demands in_sequence (on_tape recovers_zero) bytes_check (format 1 1 4 ++ cut ++ recovers 1) refl

-- ---- 'A disk whose master holds 0 there is still recovered by its lists'
-- so is one whose master holds 1
pub lists_always_lem : Claim in_sequence (on_tape lists_always) → ⊥
unfolding tests
lists_always_lem = refutes_claim in_sequence (on_tape lists_always) (format 2 1 4 ++ names_lost) refl

-- a card that is down over a disk as the FORMAT before (d) left it
abbrev two_cores : Shape
two_cores = record { cores = 2; blocks = 1; journal = 4 }

abbrev over_lists : Start
over_lists = from_down Lists two_cores zero_memory

lists_fit : StartFits over_lists
unfolding tests
lists_fit = record { stated = (refl, refl); disk = refl; memory = refl }

-- it answers 8
pub zero_refused_lem : Demands in_sequence (on_tape zero_refused) → ⊥
unfolding tests
zero_refused_lem = refutes_demands_from over_lists lists_fit in_sequence (on_tape zero_refused) answer_check (recovers 1) refl

-- 'and the closing master store of that recovery writes 1': it is left 0, and the next recovery goes by lists
pub layout_kept_lem : Claim in_sequence (on_tape layout_kept) → ⊥
unfolding tests
layout_kept_lem = refutes_claim_from over_lists lists_fit in_sequence (on_tape layout_kept) (recovers 1 ++ names_lost) refl

-- On a run the journals of such a disk are empty when it is recovered: that its lists are read as numbers is told by one RECOVER over a
-- disk that a card before (d) wrote. (1,1) is committed and its list names (0,1), which is not there. As numbers these bytes name (1,1)
-- alone, and its block goes home where the master is due.
abbrev older_disk : Bytes
older_disk =
    let s = two_cores in
    store
    (store (store (formatted_disk Lists s) (journal_block s 1 0) (descriptor_block 1 (new_tag 0 0 ∷ []))) (journal_block s 1 1) (replicate 128 2))
    (journal_block s 1 2) (list_commit_block 1 1 (new_name 0 1 ∷ []))

abbrev down_over : Bytes → World
down_over d = record { card = down_card; disk = d; memory = zero_memory }

numbers_fail : not (leaves_test in_sequence (on_tape numbers_always) 256 (recovers 1) (down_over older_disk)) ≡ true
unfolding tests
numbers_fail = refl

pub numbers_always_lem : DecidesEach in_sequence (on_tape numbers_always) → ⊥
numbers_always_lem h = clash (leaves in_sequence (on_tape numbers_always) h 256 (recovers 1) (down_over older_disk)) (not-true _ numbers_fail)

-- 'Any other value joins the conditions of refusal 8.': 2 is taken
abbrev two_in_master : Bytes
two_in_master = replaced 8 4 (formatted_disk Numbers two_cores) (0 ∷ 0 ∷ 0 ∷ 2 ∷ [])

two_fails : not (decides_test in_sequence (on_tape other_taken) (recovers 1) (down_over two_in_master)) ≡ true
unfolding tests
two_fails = refl

pub other_taken_lem : DecidesEach in_sequence (on_tape other_taken) → ⊥
other_taken_lem h = clash (decides in_sequence (on_tape other_taken) h (recovers 1) (down_over two_in_master)) (not-true _ two_fails)

-- ---- 'With (c) in force': without it the highest number is not enough
-- (1,1) names (2,1), which is lost; (1,2) names none; (0,1) names both of core 1, and of them its commit holds 2 alone. By the rule before
-- (c) the card takes (0,1) and (1,2) for valid; the book of that rule keeps (1,2) alone.
pub numbers_unordered : Claim unordered (step_at_by unordered) → ⊥
unfolding tests
numbers_unordered =
    refutes_claim unordered (step_at_by unordered)
    (format 3 3 9 ++ write 1 0 0 1 ++ write 2 0 4 2 ++ close 1 ++ stores 1 3 ++ write 1 1 0 3 ++ close 1 ++ stores 1 3 ++
    write 0 2 0 5 ++ write 0 0 8 4 ++ write 0 1 8 6 ++ close 0 ++ stores 0 5 ++ cut ++ recovers 4)
    refl
