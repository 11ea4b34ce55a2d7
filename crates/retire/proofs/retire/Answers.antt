-- `retire::retire` meets its contract: refused as CHECKPOINT is, with 34, or the master store.
use Rattle.oldest.proofs.AskedLaws.{found_core, found_long, found_number}
use Rattle.retire.proofs.CommandLaws.{retire_refused, images_outstanding, retire_done}
use borrow.Author.Rules.{rules}
use Rattle.retire.proofs.retire.Goals as goal

pub returns-in_err-e : goal.returns-in_err-e
returns-in_err-e c = search (rules, retire_refused, c.in_err-e.ensures)

pub homed-requires : goal.homed-requires
homed-requires c = search (rules, found_core, c.in_ok-e.ensures)

pub returns-then-homed-e : goal.returns-then-homed-e
returns-then-homed-e c = search (rules, images_outstanding, c.in_ok-e.ensures)

pub stored_master-requires : goal.stored_master-requires
stored_master-requires c = search (rules, found_core, found_long, found_number, c.in_ok-e.ensures)

pub returns : goal.returns
returns c = search (rules, retire_done, c.in_ok-e.ensures)
