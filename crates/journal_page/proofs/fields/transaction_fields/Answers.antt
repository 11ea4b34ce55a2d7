-- `journal_page::fields::transaction_fields` meets its contract.
use borrow.Author.Rules.{rules}
use Rattle.journal_page.proofs.FieldLaws.{transaction_is}
use Rattle.journal_page.proofs.fields.transaction_fields.Goals as goal

pub returns : goal.returns
returns c = search (rules, transaction_is)
