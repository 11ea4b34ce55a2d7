-- `layout::write_words` meets its contract: with each turn one more word of the block stands, as the closure answers it.
use Rattle.layout.proofs.Blocks.{Begun}
use Rattle.layout.proofs.writing.write_words.Given as goal

abbrev pub invariant-loop-i : goal.invariant-loop-i
invariant-loop-i g l = Begun (goal.F-post g l.word) l.b l.i
