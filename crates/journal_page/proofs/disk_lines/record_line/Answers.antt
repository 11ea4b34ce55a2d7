-- `journal_page::disk_lines::record_line` meets its contract: its fields, with its number counted from the tail.
use Rattle.journal.proofs.Tested.{extent_sized}
use Rattle.journal_page.proofs.DiskLineLaws.{record_shown}
use borrow.Author.Rules.{rules}
use Rattle.journal_page.proofs.disk_lines.record_line.Goals as goal

pub cores_named-named-requires : goal.cores_named-named-requires
cores_named-named-requires c = search (rules, extent_sized)

pub returns : goal.returns
returns c = search (rules, record_shown)
