-- Cards that go wrong by paper 02's (d): 'only the highest number named for each core matters', 'Bytes 8 to 11 of a new master hold 1'.
use Rattle.std.specs.Prelude.{ℕ, cond, ◌&&◌, length, set, eqb, leb}
use Rattle.model.specs.Bytes.{Bytes, be4}
use Rattle.model.specs.Card.{taken, highest_of}
use Rattle.model.specs.Layout.{has_master_fields, is_master, commit_block}
use Rattle.model.specs.Command.{World}
use Rattle.model.specs.Commit.{closed_number, next_stored}
use Rattle.model.specs.Recovery.{layout_on}
use Rattle.model.specs.Tape.{Step}
use Rattle.model.specs.declared.Name.{Name}
use Rattle.model.specs.declared.Transaction.{Transaction}
use Rattle.model.specs.declared.Core.{Core}
use Rattle.model.specs.declared.CommitLayout.TheVariants.{Lists}
use Rattle.refuted.specs.Parts.{store_by, format_as, retire_as, recover_as, always_lists, always_numbers, write_naming}
use Rattle.refuted.specs.Wrong.{right_place}

-- ---- 'the highest number named for each core'
-- the number of n's core is k
abbrev with_number : Transaction → Name → ℕ → Transaction
with_number t n k = record { live = t.live; stamp = t.stamp; count = t.count; blocks = t.blocks; highest = set t.highest n.core k }

-- the last number named, and the first
abbrev pub last_named : Step World
last_named = write_naming (λ t n. with_number t n n.number)

abbrev pub first_named : Step World
first_named = write_naming (λ t n. let k = highest_of t n.core in with_number t n (cond (eqb k 0) n.number k))

-- the number of the transaction's own core is not stored
abbrev pub own_left_out : Step World
own_left_out =
    store_by right_place (λ (c : ℕ) (k : Core) (m : Bytes).
    cond (leb k.stored (length (taken k.closed))) (next_stored c k m)
    (commit_block (closed_number k) k.closed.stamp (λ (i : ℕ). cond (eqb i c) 0 (highest_of k.closed i))))

-- ---- 'Bytes 8 to 11 of a new master hold 1': FORMAT's, RETIRE's, the closing one of every recovery holds 0
abbrev pub formats_zero : Step World
formats_zero = format_as Lists

abbrev pub retires_zero : Step World
retires_zero = retire_as Lists

abbrev pub recovers_zero : Step World
recovers_zero = recover_as is_master layout_on always_lists

-- ---- 'A disk whose master holds 0 there is still recovered by its lists'
-- lists are read on every disk; numbers are; a master that holds 0 is refused
abbrev pub lists_always : Step World
lists_always = recover_as is_master always_lists always_numbers

abbrev pub numbers_always : Step World
numbers_always = recover_as is_master always_numbers always_numbers

abbrev pub zero_refused : Step World
zero_refused = recover_as (λ (m : Bytes). is_master m && eqb (be4 m 8) 1) layout_on always_numbers

-- 'and the closing master store of that recovery writes 1': it writes what the master held
abbrev pub layout_kept : Step World
layout_kept = recover_as is_master layout_on layout_on

-- 'Any other value joins the conditions of refusal 8.': it is taken
abbrev pub other_taken : Step World
other_taken = recover_as has_master_fields layout_on always_numbers
