-- `journal_page::disk_lines::cores_named` meets its contract: its commit stands behind its blocks.
use borrow.Author.Rules.{rules}
use Rattle.journal_page.proofs.DiskLineLaws.{cores_counted}
use Rattle.journal_page.proofs.disk_lines.cores_named.Goals as goal

pub returns : goal.returns
returns c = search (rules, cores_counted)
