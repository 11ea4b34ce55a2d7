-- `master_block::read_tails` meets its contract: a table by the core.
use Rattle.std.proofs.Common.{rules}
use Rattle.layout.proofs.Ranges.{table_by}
use Rattle.master_block.specs.Tails.{tail_or_none}
use Rattle.master_block.proofs.read_tails.Goals as goal

pub returns : goal.returns
returns c = table_by _ (tail_or_none c.args.block.now) _ _ _ c.from_fn.ensures.items (λ i y q k. search rules)
