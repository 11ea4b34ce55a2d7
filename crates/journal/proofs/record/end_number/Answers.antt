-- `journal::end_number` meets its contract.
use Rattle.model.specs.JournalEnds.{record_answer}
use Rattle.journal.proofs.OneRecord.{number_is}
use borrow.Author.Rules.{rules}
use Rattle.journal.proofs.record.end_number.Goals as goal

pub returns-in-Ok : goal.returns-in-Ok
unfolding record_answer
returns-in-Ok c = search rules

pub returns-in-Err : goal.returns-in-Err
returns-in-Err c = search (rules, number_is)
