-- `recovery::journals::next_tail` meets its contract: the sum, or the number after the last.
use Rattle.recovery.proofs.JournalLaws.{next_number}
use Rattle.recovery.proofs.journals.next_tail.Goals as goal

pub returns : goal.returns
returns c = next_number c.args.t _ _ _ _ c.from.ensures c.saturating_add-number.ensures c.min.ensures
