-- `operands::ends_early` meets its contract: the operands reach past the end.
use Rattle.operands.proofs.OffsetLaws.{early_past, early_rest}
use borrow.Author.Rules.{rules}
use Rattle.operands.proofs.ends_early.Goals as goal

pub returns-then-tape-at : goal.returns-then-tape-at
returns-then-tape-at c = search (rules, early_past)

pub returns-else-tape-at : goal.returns-else-tape-at
returns-else-tape-at c = search (rules, early_rest)
