-- `operands::decoding::decode_write` meets its contract: the operands in order.
use borrow.Author.Rules.{rules}
use Rattle.operands.proofs.DecodingLaws.{write_operands}
use Rattle.operands.proofs.decoding.decode_write.Goals as goal

pub returns : goal.returns
returns c = search (rules, write_operands)
