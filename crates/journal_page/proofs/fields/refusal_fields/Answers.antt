-- `journal_page::fields::refusal_fields` meets its contract.
use borrow.Author.Rules.{rules}
use Rattle.journal_page.proofs.FieldLaws.{refusal_is}
use Rattle.journal_page.proofs.fields.refusal_fields.Goals as goal

pub returns : goal.returns
returns c = search (rules, refusal_is)
