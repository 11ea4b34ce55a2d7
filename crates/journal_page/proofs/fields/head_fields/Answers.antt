-- `journal_page::fields::head_fields` meets its contract.
use borrow.Author.Rules.{rules}
use Rattle.journal_page.proofs.FieldLaws.{head_is}
use Rattle.journal_page.proofs.fields.head_fields.Goals as goal

pub returns : goal.returns
returns c = search (rules, head_is)
