-- `journal_page::fields::end_fields` meets its contract.
use borrow.Author.Rules.{rules}
use Rattle.journal_page.proofs.FieldLaws.{end_is}
use Rattle.journal_page.proofs.fields.end_fields.Goals as goal

pub returns : goal.returns
returns c = search (rules, end_is)
