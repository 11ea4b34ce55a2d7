-- `journal_page::fields::no_fields` meets its contract.
use borrow.Author.Rules.{rules}
use Rattle.journal_page.proofs.FieldLaws.{none_is}
use Rattle.journal_page.proofs.fields.no_fields.Goals as goal

pub returns : goal.returns
returns c = search (rules, none_is)
