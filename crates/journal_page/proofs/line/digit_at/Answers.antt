-- `journal_page::line::digit_at` meets its contract.
use borrow.Author.Rules.{rules}
use Rattle.journal_page.proofs.LineLaws.{last_place, none_left, some_left}
use Rattle.journal_page.proofs.line.digit_at.Goals as goal
use Rattle.journal_page.proofs.line.digit_at.Goals.{else-left-eq0-via-then-left-eq0+else-place-ne0, else-left-eq0-via-else-left-eq0}

pub returns-then-place-ne0 : goal.returns-then-place-ne0
returns-then-place-ne0 c = search (rules, none_left)

pub returns : goal.returns
returns c =
    elim c.else-left-eq0.branch [
      | else-left-eq0-via-then-left-eq0+else-place-ne0 w ↦ search (rules, last_place)
      | else-left-eq0-via-else-left-eq0 w ↦ search (rules, some_left)
    ]
