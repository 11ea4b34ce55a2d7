-- `recovery::journals::emptied_tails` meets its contract: the tail of each core.
use Rattle.std.proofs.Common.{rules}
use Rattle.layout.proofs.Ranges.{table_by}
use Rattle.recovery.specs.Recovering.{tail_after}
use Rattle.recovery.proofs.journals.emptied_tails.Goals as goal

pub returns : goal.returns
returns c = table_by _ (tail_after c.args.s c.args.tails c.args.count) _ _ _ c.from_fn.ensures.items (λ i y q k. search rules)
