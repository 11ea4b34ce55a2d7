-- `close::close` meets its contract: refused, or the images copied and the transaction closed.
use Rattle.close.proofs.CloseLaws.{close_refused, close_memory, close_core, close_place, close_done}
use Rattle.layout.proofs.Wholes.{whole_written}
use Rattle.std.proofs.Common.{rules, ap, ◌∙◌}
use Rattle.model.specs.Card.{taken}
use Rattle.model.specs.Commit.{copied}
use Rattle.cells.specs.Cells.{transaction_in}
use Rattle.close.proofs.close.Goals as goal

pub returns-in_err-check_close : goal.returns-in_err-check_close
returns-in_err-check_close c = search (rules, close_refused)

pub unwrap-requires : goal.unwrap-requires
unwrap-requires c = c.as_mut_array.ensures.variant.1 (search (rules, close_memory, c.in_ok-check_close.ensures))

pub copy_images-requires : goal.copy_images-requires
copy_images-requires c =
    let passed = c.in_ok-check_close.ensures in
    (search (rules, close_place, passed), search (rules, close_core, passed))

pub close_running-requires : goal.close_running-requires
close_running-requires c = search (rules, close_core, c.in_ok-check_close.ensures)

pub returns : goal.returns
returns c =
    let same = whole_written _ _ _ _ _ c.as_mut_array.ensures.cases c.unwrap.ensures in
    let copies = c.copy_images.ensures ∙ ap (copied c.args.core 0 (taken (transaction_in c.args.w.now c.running_place.result))) same in
    search (rules, close_done, c.in_ok-check_close.ensures)
