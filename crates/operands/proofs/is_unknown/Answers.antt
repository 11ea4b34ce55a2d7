-- `operands::is_unknown` meets its contract: past the end, or out of the range of commands.
use Rattle.operands.proofs.OffsetLaws.{unknown_past, unknown_rest}
use borrow.Author.Rules.{rules}
use Rattle.operands.proofs.is_unknown.Goals as goal

pub returns-then-tape-at : goal.returns-then-tape-at
returns-then-tape-at c = search (rules, unknown_past)

pub returns : goal.returns
returns c = unknown_rest c.args.tape.now c.args.at c.if-tape-at.false _ c.byte_at.ensures _ _ _ _ c.new.ensures.start c.new.ensures.end c.new.ensures.exhausted c.contains.ensures.value
