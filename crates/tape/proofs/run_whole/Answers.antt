-- `tape::run_whole` meets its contract. A command takes one byte at least.
use Rattle.std.proofs.Common.{rules}
use Rattle.tape.proofs.TapeLaws.{shorter, left_all, left_passed, left_kept}
use Rattle.tape.proofs.run_whole.Goals as goal

pub loop-unrun-init : goal.loop-unrun-init
loop-unrun-init g c = left_all _

pub loop-unrun-preserved : goal.loop-unrun-preserved
loop-unrun-preserved g c = left_passed _ _ _ c.loop-unrun.invariant (search rules) (search rules)

pub loop-unrun-smaller : goal.loop-unrun-smaller
loop-unrun-smaller g c = search (rules, shorter)

pub returns-in_err-next : goal.returns-in_err-next
returns-in_err-next g c = search (rules, left_kept)

pub returns-in_default : goal.returns-in_default
returns-in_default g c = left_passed _ _ _ c.loop-unrun.invariant (search rules) (search rules)

pub returns : goal.returns
returns g c = search rules
