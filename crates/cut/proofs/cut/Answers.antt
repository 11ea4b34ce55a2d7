-- `cut::cut` meets its contract: refused, or memory zeroed and the card down.
use borrow.Author.Rules.{rules}
use Rattle.cut.proofs.CutLaws.{cut_refused, cut_done}
use Rattle.cut.proofs.cut.Goals as goal

pub returns-in_err-check_cut : goal.returns-in_err-check_cut
returns-in_err-check_cut c = search (rules, cut_refused)

pub returns : goal.returns
returns c = let e = c.fill.ensures.after (λ y h. h) in search (rules, cut_done, c.in_ok-check_cut.ensures)
