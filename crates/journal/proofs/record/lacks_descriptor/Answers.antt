-- `journal::lacks_descriptor` meets its contract: each return is one condition of `lacksDescriptor`.
use Rattle.journal.proofs.OneRecord.{lacks_block, lacks_number, lacks_head}
use borrow.Author.Rules.{rules}
use Rattle.journal.proofs.record.lacks_descriptor.Goals as goal

pub returns-then-left-eq0 : goal.returns-then-left-eq0
returns-then-left-eq0 c = search (rules, lacks_block)

pub returns-then-number-gt-MAX_NUMBER : goal.returns-then-number-gt-MAX_NUMBER
returns-then-number-gt-MAX_NUMBER c = search (rules, lacks_number)

pub returns : goal.returns
returns c = search (rules, lacks_head)
