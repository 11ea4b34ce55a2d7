-- `layout::are_listable` meets its contract: each name meets the test.
use Rattle.std.proofs.Common.{rules, tests}
use Rattle.model.specs.Card.{new_name}
use Rattle.model.specs.Layout.{is_listable, pair_at}
use Rattle.layout.proofs.Ranges.{every_by}
use Rattle.layout.proofs.commit_block.are_listable.Goals as goal

pub returns : goal.returns
returns c = every_by (λ i. is_listable c.args.s (pair_at new_name c.args.block.now 24 i)) c.all.ensures.ran (λ x b q k. search (rules, tests))
