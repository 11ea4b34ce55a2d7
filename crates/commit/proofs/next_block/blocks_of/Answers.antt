-- `commit::next_block::blocks_of` meets its contract: the block of each cell.
use Rattle.std.proofs.Common.{rules}
use Rattle.layout.proofs.Ranges.{table_by}
use Rattle.commit.proofs.StoreLaws.{block_in, blocks_read}
use Rattle.commit.proofs.next_block.blocks_of.Goals as goal

pub returns : goal.returns
returns c = blocks_read _ _ _ (table_by _ (block_in c.args.w.now c.args.at) _ _ _ c.from_fn.ensures.items (λ i y q k. search rules))
