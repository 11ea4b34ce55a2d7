-- `layout::are_new` meets its contract: each block passed is none of those before it.
use Rattle.std.proofs.Common.{rules, tests}
use Rattle.std.proofs.iter.Serving.{serving}
use Rattle.layout.specs.Distinct.{is_new}
use Rattle.layout.proofs.Narrow.{first_below}
use Rattle.layout.proofs.Ranges.{every_by}
use Rattle.layout.proofs.descriptor_block.are_new.Goals as goal

pub all-requires-clause-callable : goal.all-requires-clause-callable
all-requires-clause-callable c = grind (serving, first_below)

pub returns : goal.returns
returns c = every_by (λ i. is_new c.args.block.now i) c.all.ensures.ran (λ x b q k. search (rules, tests))
