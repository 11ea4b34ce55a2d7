-- `journal_page::disk_lines::page_lines` meets its contract.
use native.Mathlib.Omega.{arith}
use Rattle.journal_page.proofs.DiskLineLaws.{one_lines, is_long, is_fit, count_low, lines_counted}
use borrow.Author.Rules.{rules}
use Rattle.model.proofs.RefusalNumbers.{refused_answer, done_answer}
use Rattle.recovery.proofs.JournalLaws.{shaped_same, on_disk_same}
use Rattle.journal_page.proofs.disk_lines.page_lines.Goals as goal

pub returns-then-is_err : goal.returns-then-is_err
returns-then-is_err c = (one_lines _ _ c.check_page.ensures (refused_answer _ (search rules)), search rules)

pub disk_shape-s-requires : goal.disk_shape-s-requires
disk_shape-s-requires c = let fine = done_answer c.check_page.result (search rules) in (is_long _ _ c.check_page.ensures fine, is_fit _ _ c.check_page.ensures fine)

pub new-whole-requires : goal.new-whole-requires
new-whole-requires c = (c.disk_shape-s.ensures.range, c.disk_shape-s.ensures.long)

pub read_disk-all-requires : goal.read_disk-all-requires
read_disk-all-requires c =
    let n = c.new-whole.ensures in
    shaped_same _ _ _ _ n.0 n.1 c.disk_shape-s.ensures

pub overflow_add-result : goal.overflow_add-result
overflow_add-result c =
    let n = c.new-whole.ensures in
    let on_disk = on_disk_same _ _ _ _ n.0 n.1 _ _ _ _ _ c.read_disk-all.ensures in
    omega (arith, count_low _ _ c.disk_shape-s.ensures _ _ _ _ _ on_disk _ c.total_count.ensures)

pub overflow_add-result-2 : goal.overflow_add-result-2
overflow_add-result-2 c =
    let n = c.new-whole.ensures in
    let on_disk = on_disk_same _ _ _ _ n.0 n.1 _ _ _ _ _ c.read_disk-all.ensures in
    omega (arith, count_low _ _ c.disk_shape-s.ensures _ _ _ _ _ on_disk _ c.total_count.ensures)

pub returns : goal.returns
returns c =
    let n = c.new-whole.ensures in
    let on_disk = on_disk_same _ _ _ _ n.0 n.1 _ _ _ _ _ c.read_disk-all.ensures in (
      lines_counted _ _ c.disk_shape-s.ensures _ _ _ _ _ on_disk _ c.total_count.ensures _ c.check_page.ensures (done_answer _ (search rules)),
      omega (arith, count_low _ _ c.disk_shape-s.ensures _ _ _ _ _ on_disk _ c.total_count.ensures, c.disk_shape-s.ensures.range.few_cores),
    )
