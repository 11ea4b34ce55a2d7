-- `lines::homes::printed_below` meets its contract. Invariant: those below b are put.
use Rattle.lines.proofs.PageLaws.{printed_none, printed_more, printed_same}
use borrow.Author.Rules.{rules}
use Rattle.lines.proofs.homes.printed_below.Goals as goal
use Rattle.lines.proofs.homes.printed_below.Goals.{then-is_printed, else-is_printed}

pub loop-b-init : goal.loop-b-init
loop-b-init c = (search rules, printed_none c.args.disk.now)

pub loop-b-preserved : goal.loop-b-preserved
loop-b-preserved c = elim c.if-is_printed.branch [ then-is_printed w ↦ search (rules, printed_more) | else-is_printed w ↦ search (rules, printed_same) ]
