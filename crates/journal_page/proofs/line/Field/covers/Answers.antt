-- `journal_page::line::Field::covers` meets its contract.
use borrow.Author.Rules.{rules}
use Rattle.journal_page.proofs.LineLaws.{before_field, from_field}
use Rattle.journal_page.proofs.line.Field.covers.Goals as goal

pub returns-then-self-column : goal.returns-then-self-column
returns-then-self-column c = search (rules, from_field)

pub returns-else-self-column : goal.returns-else-self-column
returns-else-self-column c = search (rules, before_field)
