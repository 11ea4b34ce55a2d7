-- `layout::is_new` meets its contract: each block before it is another one.
use Rattle.std.proofs.Common.{rules, tests}
use Rattle.std.proofs.iter.Serving.{serving}
use Rattle.layout.specs.Distinct.{is_new, is_other}
use Rattle.layout.proofs.Narrow.{last_below, earlier_below}
use Rattle.layout.proofs.Ranges.{every_by}
use Rattle.layout.proofs.descriptor_block.is_new.Goals as goal

pub block_byte-x-requires : goal.block_byte-x-requires
block_byte-x-requires c = search (rules, last_below)

pub all-requires-clause-callable : goal.all-requires-clause-callable
all-requires-clause-callable c = grind (serving, earlier_below)

pub returns : goal.returns
unfolding is_new is_other
returns c = every_by (is_other c.args.block.now c.args.i) c.all.ensures.ran (λ x b q k. search (rules, tests))
