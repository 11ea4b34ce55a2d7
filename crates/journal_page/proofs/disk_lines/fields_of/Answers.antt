-- `journal_page::disk_lines::fields_of` meets its contract.
use borrow.Author.Rules.{rules}
use Rattle.model.proofs.RefusalNumbers.{number_not_0}
use Rattle.journal_page.proofs.DiskLineLaws.{refused_at, is_long, is_fit, head_at, behind_at}
use Rattle.recovery.proofs.JournalLaws.{shaped_same}
use Rattle.journal_page.proofs.disk_lines.fields_of.Goals as goal

pub returns-in-Err : goal.returns-in-Err
returns-in-Err c = search (rules, refused_at, number_not_0, c.in-Err.ensures)

pub disk_shape-s-requires : goal.disk_shape-s-requires
disk_shape-s-requires c = search (rules, is_long, is_fit, c.in_default.ensures)

pub returns-then-i-eq0 : goal.returns-then-i-eq0
returns-then-i-eq0 c = search (rules, head_at, c.in_default.ensures)

pub new-requires : goal.new-requires
new-requires c = (c.disk_shape-s.ensures.range, c.disk_shape-s.ensures.long)

pub nth_line-requires : goal.nth_line-requires
nth_line-requires c =
    let n = c.new.ensures in
    shaped_same _ _ _ _ n.0 n.1 c.disk_shape-s.ensures

pub returns : goal.returns
returns c =
    let line = rw (c.new.ensures.1) at c.nth_line.ensures in
    search (rules, behind_at, line, c.in_default.ensures)
