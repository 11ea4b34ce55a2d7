-- `layout::block_at` meets its contract: the part lent is the block.
use Rattle.std.proofs.Common.{◌≡◌, ◌*◌, ◌+◌, ◌-◌, take, drop, rules, ◌∙◌}
use Rattle.layout.proofs.Blocks.{block_part}
use Rattle.layout.proofs.data.block_at.Goals as goal

pub returns : goal.returns
returns c = let h : c.unwrap.result.now ≡ take (128 * c.args.k + 128 - 128 * c.args.k) (drop (128 * c.args.k) c.args.s.now) = search rules in h ∙ block_part _ _
