-- `layout::write_words` meets its contract: with each turn one more word of the block stands, as the closure answers it.
use Rattle.std.proofs.Common.{arith}
use Rattle.layout.proofs.Blocks.{begun, begun_all}
use Rattle.layout.proofs.writing.write_words.Goals as goal

pub loop-i-init : goal.loop-i-init
loop-i-init g c = search begun

pub loop-i-preserved : goal.loop-i-preserved
loop-i-preserved g c = search begun

pub returns : goal.returns
returns g c = begun_all _ _ _ c.loop-i.invariant (omega arith)
