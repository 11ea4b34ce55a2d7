-- `journal_page::line::shown_at` meets its contract: the first field that has the column.
use borrow.Author.Rules.{rules}
use Rattle.journal_page.proofs.LineLaws.{shown_none, shown_hit, shown_missed, shown_end}
use Rattle.journal_page.proofs.line.shown_at.Goals as goal
use Rattle.journal_page.proofs.line.shown_at.Goals.{in_default-via-in-None-1, in_default-via-in-Some+else-covers}

pub returns-in-loop-field : goal.returns-in-loop-field
returns-in-loop-field c = search (rules, shown_hit)

pub loop-field-preserved : goal.loop-field-preserved
loop-field-preserved c =
    elim c.in_default.branch [
      | in_default-via-in-None-1 w ↦ search (rules, shown_none)
      | in_default-via-in-Some+else-covers w ↦ search (rules, shown_missed)
    ]

pub returns : goal.returns
returns c = search (rules, shown_end)
