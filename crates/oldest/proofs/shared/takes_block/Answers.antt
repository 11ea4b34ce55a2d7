-- `oldest::shared::takes_block` meets its contract: some block of those taken is the one sought.
use Rattle.std.proofs.Common.{rules, tests, ◌∙◌}
use lib.Dec.{eqb}
use Rattle.layout.proofs.Ranges.{some_by}
use Rattle.cells.specs.Cells.{byte_in, block_place}
use Rattle.oldest.proofs.SharedLaws.{block_among}
use Rattle.oldest.proofs.shared.takes_block.Goals as goal

pub returns : goal.returns
returns c =
    let n = c.block_count.ensures in
    some_by (λ i. eqb c.args.b (byte_in c.args.w.now (block_place c.args.at i))) c.any.ensures.ran (λ i y q k. search (rules, tests)) ∙ block_among _ _ _ _ n.0 n.1
