-- `commit::next_block::highest_of` meets its contract: the number of each cell.
use Rattle.std.proofs.Common.{rules}
use Rattle.layout.proofs.Ranges.{table_by}
use Rattle.commit.proofs.StoreLaws.{number_cell, highest_read}
use Rattle.commit.proofs.next_block.highest_of.Goals as goal

pub returns : goal.returns
returns c = highest_read _ _ _ (table_by _ (number_cell c.args.w.now c.args.at) _ _ _ c.from_fn.ensures.items (λ i y q k. search rules))
