-- `journal_page::line::byte_at` meets its contract.
use borrow.Author.Rules.{rules}
use Rattle.journal_page.proofs.LineLaws.{byte_feed, byte_shown}
use Rattle.journal_page.proofs.line.byte_at.Goals as goal

pub returns-then-column-gt-COLUMNS : goal.returns-then-column-gt-COLUMNS
returns-then-column-gt-COLUMNS c = search (rules, byte_feed)

pub returns : goal.returns
returns c = search (rules, byte_shown)
