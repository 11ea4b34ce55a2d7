-- `journal_page::disk_lines::check_page` meets its contract.
use borrow.Author.Rules.{rules}
use Rattle.journal_page.proofs.DiskLineLaws.{wrong_length_lem, right_length}
use Rattle.journal_page.proofs.disk_lines.check_page.Goals as goal

pub returns-then-disk-ne-DISK_SIZE : goal.returns-then-disk-ne-DISK_SIZE
returns-then-disk-ne-DISK_SIZE c = search (rules, wrong_length_lem)

pub returns : goal.returns
returns c = search (rules, right_length)
