-- Tapes by their commands, and every definition that a test of a run computes with, on one `unfolding` line.
use Prim.Native.Nat.{ℕ}
use mathlib.Core.List.{List, [], ◌∷◌, ◌++◌, map, flat_map}
use lib.ListN.{replicate}
use Rattle.model.specs.Lists.{below, select}
use Rattle.model.specs.Bytes.{Bytes, bytes}
use Rattle.model.specs.Command.{World}
use Rattle.model.specs.Recovery.{home_area}
use Rattle.model.specs.Tape.{Command, run, world_after}
use Rattle.model.specs.Valid.{in_sequence}
use Rattle.model.specs.Step.{conditions_of, step, step_at, world_by}
use Rattle.model.specs.Printing.{blank_world}
use Rattle.crash.specs.Claims.{start_world, start_service, start_ledger, fed_point, entered_point}
use Rattle.crash.specs.Service.{book_area}
use Rattle.crash.specs.Ledger.{blank_ledger, fresh_ledger, image_now, close_ledger, unretired, met_in, valid_in, blocks_in, cut_ledger, recover_ledger, carried_out, entered, stored_of, stored_since, record_tags, record_of, record_blocks, record_store_in, tails_past, home_store_in, master_store_in, recover_store_in, disk_after, copies_stored, memory_after, format_refusals, writer_blocks, limit_passes, journal_passes, number_passes, write_refusals, close_refusals, store_refusals, shares_lower_in, checkpoint_refusals, retire_refusals, refusals_of, answer_of, read_now, read_refusals}
use Rattle.crash.proofs.Books.BookExamples.{books}
use Rattle.refuted.proofs.Checks.{same_list, is_recover, comes_up, area_holds, answer_test, used_bytes, image_bytes, same_world, refused_test, of_done, count_test, bytes_test, memory_test, holds, reads_test, reads_hold, span_test, decides_test, leaves_test}

unfoldable pub tests : Unit {0}
unfolding books read_refusals read_now home_area start_world start_service start_ledger fed_point entered_point book_area blank_ledger fresh_ledger image_now close_ledger unretired met_in valid_in blocks_in cut_ledger recover_ledger carried_out entered stored_of stored_since record_tags record_of record_blocks record_store_in tails_past home_store_in master_store_in recover_store_in disk_after copies_stored memory_after format_refusals writer_blocks limit_passes journal_passes number_passes write_refusals close_refusals store_refusals shares_lower_in checkpoint_refusals retire_refusals refusals_of answer_of same_list is_recover comes_up area_holds answer_test used_bytes image_bytes same_world refused_test of_done count_test bytes_test memory_test holds reads_test reads_hold world_by span_test decides_test leaves_test
tests = tt

-- the world at the end of a run of the model's card
abbrev pub end_of : Bytes → World
end_of t = world_after blank_world (run step_at t blank_world)

-- of a command the numbers whose conditions hold, and its answer
abbrev pub numbers_and_answer : Command → World → List ℕ × ℕ
numbers_and_answer k w = (map (λ t. t.1) (select (λ t. t.0) (conditions_of in_sequence k w)), (step k w).answer)

-- ---- commands of a tape
abbrev pub format : ℕ → ℕ → ℕ → Bytes
format c b j = 1 ∷ c ∷ b ∷ j ∷ []

-- a WRITE, of byte k
abbrev write_as : ℕ → ℕ → ℕ → ℕ → Bytes → Bytes
write_as k c b o v = k ∷ c ∷ 0 ∷ b ∷ o ∷ v

-- four bytes x, by command 2 and by the report task
abbrev pub write : ℕ → ℕ → ℕ → ℕ → Bytes
write c b o x = write_as 2 c b o (replicate 4 x)

abbrev pub report : ℕ → ℕ → ℕ → ℕ → Bytes
report c b o x = write_as 9 c b o (replicate 4 x)

-- .. into core 0's blocks below n
abbrev pub reports : ℕ → Bytes
reports n = flat_map (λ (b : ℕ). report 0 b 0 1) (below n)

-- the four bytes of n
abbrev pub write_word : ℕ → ℕ → ℕ → ℕ → Bytes
write_word c b o n = write_as 2 c b o (bytes 4 n)

abbrev pub close : ℕ → Bytes
close c = 3 ∷ c ∷ []

abbrev pub stores : ℕ → ℕ → Bytes
stores c n = flat_map (λ (i : ℕ). 4 ∷ c ∷ []) (below n)

abbrev pub checkpoints : ℕ → ℕ → Bytes
checkpoints c n = flat_map (λ (i : ℕ). 5 ∷ c ∷ []) (below n)

abbrev pub retires : ℕ → Bytes
retires c = 8 ∷ c ∷ []

abbrev pub cut : Bytes
cut = 6 ∷ []

abbrev pub recovers : ℕ → Bytes
recovers n = replicate n 7

-- Core 1 writes into core 0's block, core 0 commits, core 2 takes the block and commits: core 1's bytes are lost.
abbrev pub lost_writer : Bytes
lost_writer = format 3 1 4 ++ write 0 0 0 1 ++ write 1 0 4 2 ++ close 0 ++ stores 0 3 ++ write 2 0 8 3 ++ close 2 ++ stores 2 3 ++ cut ++ recovers 2

-- (1,1) names (2,1), which is lost; (1,2) and (0,1) name each other, and all three are committed. In sequence (0,1) depends on (1,2), this on
-- (1,1), and so on (2,1).
abbrev pub linked : Bytes
linked =
    format 3 3 6 ++ write 1 2 0 1 ++ write 2 2 4 2 ++ close 1 ++ stores 1 3 ++ write 1 1 0 3 ++ write 0 0 0 4 ++ write 0 1 4 5 ++
    close 0 ++ stores 0 3 ++ close 1 ++ stores 1 3 ++ checkpoints 0 1 ++ cut ++ recovers 2

-- one transaction is committed and kept
abbrev pub one_kept : Bytes
one_kept = format 1 1 4 ++ write 0 0 0 1 ++ close 0 ++ stores 0 3 ++ cut ++ recovers 2

-- the report task writes into one block more than its limit
abbrev pub four_reports : Bytes
four_reports = format 1 4 10 ++ reports 4
