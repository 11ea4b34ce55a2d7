-- `journal_page::disk_lines::end_line` meets its contract.
use Rattle.journal_page.proofs.DiskLineLaws.{end_none, end_shown}
use borrow.Author.Rules.{rules}
use Rattle.journal_page.proofs.disk_lines.end_line.Goals as goal

pub returns-then-disk-c : goal.returns-then-disk-c
returns-then-disk-c c = search (rules, end_none)

pub returns : goal.returns
returns c = search (rules, end_shown)
