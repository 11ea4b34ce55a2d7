-- `journal::read_descriptor` meets its contract: a descriptor's count is at most 8, so it fits a byte.
use Rattle.journal.proofs.OneRecord.{descriptor_bad, descriptor_fits, descriptor_is}
use borrow.Author.Rules.{rules}
use Rattle.journal.proofs.record.read_descriptor.Goals as goal

pub returns-then-has_bad_field : goal.returns-then-has_bad_field
returns-then-has_bad_field c = search (rules, descriptor_bad)

pub overflow_cast-result : goal.overflow_cast-result
overflow_cast-result c = search (rules, descriptor_fits)

pub returns : goal.returns
returns c = search (rules, descriptor_is)
