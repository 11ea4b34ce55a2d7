-- `layout::get_word` meets its contract: the four bytes in turn are the number, law `be4_get_or`.
use Rattle.std.proofs.Common.{arith}
use Rattle.model.proofs.Words.{be4_get_or}
use Rattle.layout.proofs.words.get_word.Goals as goal

pub returns : goal.returns
returns c = omega (arith, be4_get_or c.args.b.now c.args.at c.requires, c.from_be_bytes.ensures)
