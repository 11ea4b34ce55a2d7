-- `checkpoint::checkpoint` meets its contract: refused as RETIRE is, with 35, or a home store.
use Rattle.oldest.proofs.AskedLaws.{found_core, found_read}
use Rattle.checkpoint.proofs.CommandLaws.{checkpoint_refused, all_home, home_done}
use borrow.Author.Rules.{rules}
use Rattle.checkpoint.proofs.checkpoint.Goals as goal

pub returns-in_err-e : goal.returns-in_err-e
returns-in_err-e c = search (rules, checkpoint_refused, c.in_err-e.ensures)

pub homed-done-requires : goal.homed-done-requires
homed-done-requires c = search (rules, found_core, c.in_ok-e.ensures)

pub returns-then-e-done : goal.returns-then-e-done
returns-then-e-done c = search (rules, all_home, c.in_ok-e.ensures)

pub stored_home-requires : goal.stored_home-requires
stored_home-requires c = (search (rules, found_core, c.in_ok-e.ensures), search (rules, found_read, c.in_ok-e.ensures), search rules, search rules)

pub returns : goal.returns
returns c = search (rules, home_done, c.in_ok-e.ensures)
