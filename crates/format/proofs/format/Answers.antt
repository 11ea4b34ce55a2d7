-- `format::format` meets its contract: refused, out of range, or carried out.
use Rattle.format.proofs.FormatLaws.{not_blank_lem, out_of_range, blank_disk, blank_memory, fits_same, format_done}
use borrow.Author.Rules.{rules}
use Rattle.format.proofs.format.Goals as goal

pub returns-in_err-check_blank : goal.returns-in_err-check_blank
returns-in_err-check_blank c = search (rules, not_blank_lem)

pub returns-in_default : goal.returns-in_default
returns-in_default c = search (rules, out_of_range, c.in_ok-check_blank.ensures)

pub set_up-requires : goal.set_up-requires
set_up-requires c =
    let passed = c.in_ok-check_blank.ensures in
    (search (rules, fits_same), search (rules, blank_disk, passed), search (rules, blank_memory, passed))

pub returns : goal.returns
returns c = search (rules, format_done, c.in_ok-check_blank.ensures)
