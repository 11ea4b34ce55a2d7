-- `cells::transactions::block_count` meets its contract: a count above eight counts as eight.
use Rattle.std.proofs.Common.{arith, ◌∙◌}
use Rattle.cells.proofs.ReadLaws.{count_taken}
use Rattle.cells.proofs.transactions.block_count.Goals as goal

pub returns : goal.returns
returns c = (count_taken _ _ _ _ c.min.ensures (c.from.ensures ∙ c.byte_in.ensures), omega (arith, c.min.ensures))
