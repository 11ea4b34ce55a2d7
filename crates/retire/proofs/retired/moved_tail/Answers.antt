-- `retire::retired::moved_tail` meets its contract.
use Rattle.journal.proofs.OneRecord.{position_byte}
use Rattle.retire.proofs.MasterLaws.{tail_past}
use borrow.Author.Rules.{rules}
use Rattle.retire.proofs.retired.moved_tail.Goals as goal

pub overflow_cast-result : goal.overflow_cast-result
overflow_cast-result c = search (rules, position_byte)

pub returns : goal.returns
returns c = search (rules, tail_past)
