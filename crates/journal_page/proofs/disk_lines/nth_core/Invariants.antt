-- `journal_page::disk_lines::nth_core` meets its contract: the cores passed have no more than n.
use Rattle.journal_page.proofs.DiskLineLaws.{CoresPassed}
use Rattle.journal_page.proofs.disk_lines.nth_core.Given as goal

abbrev pub invariant-loop-c : goal.invariant-loop-c
invariant-loop-c l = CoresPassed l.fn.s l.count l.n l.c
