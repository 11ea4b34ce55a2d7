-- `journal_page::line::shifted` meets its contract: place by place.
use borrow.Author.Rules.{rules}
use Rattle.journal_page.proofs.LineLaws.{shift_more}
use Rattle.journal_page.proofs.line.shifted.Goals as goal

pub loop-preserved : goal.loop-preserved
loop-preserved c = search (rules, shift_more)
