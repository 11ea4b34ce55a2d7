-- The cards that paper 01's section 'Where a card goes astray' warns of, each refuted by a tape that is computed.
use mathlib.Core.Path.{refl}
use mathlib.Core.List.{◌++◌}
use Rattle.model.specs.Valid.{in_sequence}
use Rattle.model.specs.Bytes.{Bytes}
use Rattle.crash.specs.Claims.{Claim, Demands}
use Rattle.refuted.specs.Parts.{on_tape}
use Rattle.refuted.specs.Wrong.{no_name_for_committed, newest_by_order, tails_core_by_core, tail_unchanged, numbers_from_one, up_before_home, first_record_only, invented_count, nothing_changes, blank_always, store_always30, checkpoint_always32}
use Rattle.refuted.proofs.Checks.{refutes_claim, refutes_demands, answer_check, count_check, bytes_check}
use Rattle.refuted.proofs.Tapes.{tests, format, write, close, stores, checkpoints, cut, recovers, lost_writer, one_kept}

-- ---- 'Where a card goes astray'
-- Core 1's lost bytes come back.
pub no_name_for_committed_lem : Claim in_sequence (on_tape no_name_for_committed) → ⊥
unfolding tests
no_name_for_committed_lem = refutes_claim in_sequence (on_tape no_name_for_committed) lost_writer refl

-- U of core 1 and T of core 0 are tied; U closes, T still runs and takes the block.
pub newest_by_order_lem : Claim in_sequence (on_tape newest_by_order) → ⊥
unfolding tests
newest_by_order_lem =
    refutes_claim in_sequence (on_tape newest_by_order)
    (format 2 1 4 ++ write 1 0 0 1 ++ write 0 0 4 2 ++ close 1 ++ write 0 0 8 3 ++ close 0 ++ stores 1 3 ++ stores 0 3 ++ cut ++ recovers 2)
    refl

-- Core 1 commits and names core 0's, which is lost: nothing is kept. With core 0's tail moved alone the name lies below it.
pub tails_core_by_core_lem : Claim in_sequence (on_tape tails_core_by_core) → ⊥
unfolding tests
tails_core_by_core_lem =
    refutes_claim in_sequence (on_tape tails_core_by_core)
    (format 2 2 4 ++ write 0 0 0 1 ++ write 1 0 4 2 ++ write 1 1 0 3 ++ close 1 ++ stores 1 3 ++ cut ++ recovers 1 ++ cut ++ recovers 3)
    refl

-- The old data and the old commit close the new descriptor: block 1 gets the bytes of block 0.
abbrev torn_record : Bytes
torn_record = format 1 2 4 ++ write 0 0 0 1 ++ close 0 ++ stores 0 3 ++ cut ++ recovers 2 ++ write 0 1 0 2 ++ close 0 ++ stores 0 1 ++ cut ++ recovers 2

pub tail_unchanged_lem : Claim in_sequence (on_tape tail_unchanged) → ⊥
unfolding tests
tail_unchanged_lem = refutes_claim in_sequence (on_tape tail_unchanged) torn_record refl

pub numbers_from_one_lem : Claim in_sequence (on_tape numbers_from_one) → ⊥
unfolding tests
numbers_from_one_lem = refutes_claim in_sequence (on_tape numbers_from_one) torn_record refl

-- ---- 'Cards that look busy'
pub up_before_home_lem : Claim in_sequence (on_tape up_before_home) → ⊥
unfolding tests
up_before_home_lem = refutes_claim in_sequence (on_tape up_before_home) one_kept refl

-- 'all shut out by demand 2': it stores the master where a home store is due
pub up_before_home_store : Demands in_sequence (on_tape up_before_home) → ⊥
unfolding tests
up_before_home_store = refutes_demands in_sequence (on_tape up_before_home) bytes_check one_kept refl

pub first_record_only_lem : Demands in_sequence (on_tape first_record_only) → ⊥
unfolding tests
first_record_only_lem =
    refutes_demands in_sequence (on_tape first_record_only) bytes_check
    (format 1 1 6 ++ write 0 0 0 1 ++ close 0 ++ stores 0 3 ++ write 0 0 0 2 ++ close 0 ++ stores 0 1)
    refl

pub invented_count_lem : Demands in_sequence (on_tape invented_count) → ⊥
unfolding tests
invented_count_lem = refutes_demands in_sequence (on_tape invented_count) count_check (format 1 1 4 ++ write 0 0 0 1 ++ close 0) refl

pub nothing_changes_lem : Demands in_sequence (on_tape nothing_changes) → ⊥
unfolding tests
nothing_changes_lem = refutes_demands in_sequence (on_tape nothing_changes) bytes_check (format 1 1 4 ++ write 0 0 0 1 ++ close 0 ++ stores 0 1) refl

pub blank_always_lem : Claim in_sequence (on_tape blank_always) → ⊥
unfolding tests
blank_always_lem = refutes_claim in_sequence (on_tape blank_always) one_kept refl

pub store_always_30 : Demands in_sequence (on_tape store_always30) → ⊥
unfolding tests
store_always_30 = refutes_demands in_sequence (on_tape store_always30) answer_check (format 1 1 4 ++ write 0 0 0 1 ++ close 0 ++ stores 0 1) refl

pub checkpoint_always_32 : Demands in_sequence (on_tape checkpoint_always32) → ⊥
unfolding tests
checkpoint_always_32 =
    refutes_demands in_sequence (on_tape checkpoint_always32) answer_check
    (format 1 1 4 ++ write 0 0 0 1 ++ close 0 ++ stores 0 3 ++ checkpoints 0 1)
    refl
