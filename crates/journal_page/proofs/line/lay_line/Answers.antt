-- `journal_page::line::lay_line` meets its contract: the buffer is filled column by column.
use Rattle.layout.proofs.Loops.{filled}
use Rattle.journal_page.proofs.LineLaws.{wrong_size, right_size}
use Rattle.journal_page.proofs.line.lay_line.Goals as goal

pub returns-then-buffer-ne-LINE_SIZE : goal.returns-then-buffer-ne-LINE_SIZE
returns-then-buffer-ne-LINE_SIZE c = wrong_size _ _ c.if-buffer-ne-LINE_SIZE.true

pub loop-i-init : goal.loop-i-init
loop-i-init c = search filled

pub loop-i-preserved : goal.loop-i-preserved
loop-i-preserved c = search filled

pub returns : goal.returns
returns c = right_size _ _ c.if-buffer-ne-LINE_SIZE.false _ _ c.loop-i.invariant c.loop-i-test.false
