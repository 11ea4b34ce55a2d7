-- `master_block::are_tails` meets its contract: each tail meets the test.
use Rattle.std.proofs.Common.{rules, tests}
use Rattle.model.specs.Layout.{is_tail, tail_in}
use Rattle.layout.proofs.Ranges.{every_by}
use Rattle.master_block.proofs.are_tails.Goals as goal

pub returns : goal.returns
returns c = every_by (λ i. is_tail c.args.s (tail_in c.args.block.now i)) c.all.ensures.ran (λ x b q k. search (rules, tests))
