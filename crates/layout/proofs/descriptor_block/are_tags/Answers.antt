-- `layout::are_tags` meets its contract: each block meets the test.
use Rattle.std.proofs.Common.{rules, tests}
use Rattle.model.specs.Layout.{is_tag, pair_at, new_tag}
use Rattle.layout.proofs.Ranges.{every_by}
use Rattle.layout.proofs.descriptor_block.are_tags.Goals as goal

pub returns : goal.returns
returns c = every_by (λ i. is_tag c.args.s (pair_at new_tag c.args.block.now 16 i)) c.all.ensures.ran (λ x b q k. search (rules, tests))
