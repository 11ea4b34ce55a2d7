-- `journal_page::disk_lines::nth_core` meets its contract: the cores passed have no more than n.
use Rattle.journal_page.proofs.DiskLineLaws.{cores_none, nth_here, cores_more, nth_past}
use borrow.Author.Rules.{rules}
use Rattle.journal_page.proofs.disk_lines.nth_core.Goals as goal

pub loop-c-init : goal.loop-c-init
loop-c-init c = cores_none _ _ _

pub returns-then-is_before_end : goal.returns-then-is_before_end
returns-then-is_before_end c = search (rules, nth_here)

pub loop-c-preserved : goal.loop-c-preserved
loop-c-preserved c = search (rules, cores_more)

pub returns : goal.returns
returns c = search (rules, nth_past)
