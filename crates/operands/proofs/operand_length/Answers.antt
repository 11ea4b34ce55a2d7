-- `operands::operand_length` meets its contract: the table is the definition's; past it there is no command.
use Rattle.std.proofs.Common.{arith}
use Rattle.model.specs.Tape.{operand_lengths, operand_length}
use Rattle.operands.proofs.OffsetLaws.{length_few}
use Rattle.operands.proofs.operand_length.Goals as goal

pub returns : goal.returns
unfolding operand_length operand_lengths
returns c = (c.byte_at.ensures, omega (arith, length_few c.args.k, c.byte_at.ensures))
