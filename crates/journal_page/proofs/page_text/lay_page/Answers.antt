-- `journal_page::page_text::lay_page` meets its contract: line by line.
use borrow.Author.Rules.{rules}
use Rattle.journal_page.proofs.PageTextLaws.{lines_laid}
use Rattle.journal_page.proofs.page_text.lay_page.Goals as goal

pub loop-i-init : goal.loop-i-init
loop-i-init c = search lines_laid

pub loop-i-preserved : goal.loop-i-preserved
loop-i-preserved c = search lines_laid

pub returns : goal.returns
returns c = (search rules, search rules, search lines_laid)
