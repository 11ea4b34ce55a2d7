-- `journal_page::page_text::lay_page` meets its contract: line by line.
use Rattle.journal_page.proofs.PageTextLaws.{LinesLaid}
use Rattle.journal_page.proofs.page_text.lay_page.Given as goal

abbrev pub invariant-loop-i : goal.invariant-loop-i
invariant-loop-i l = LinesLaid l.disk l.initial.text l.n l.text l.i
