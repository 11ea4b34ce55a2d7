-- `journal_page::line::shown_at` meets its contract: the first field that has the column.
use Rattle.journal_page.proofs.LineLaws.{ShownFrom}
use Rattle.journal_page.proofs.line.shown_at.Given as goal

abbrev pub invariant-loop-field : goal.invariant-loop-field
invariant-loop-field l = ShownFrom l.fn.fields l.column l.field-index
