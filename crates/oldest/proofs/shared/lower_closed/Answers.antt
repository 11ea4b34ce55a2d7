-- `oldest::shared::lower_closed` meets its contract: none closed, a later one, an earlier one.
use Rattle.oldest.proofs.SharedLaws.{closed_none, closed_later, closed_earlier}
use borrow.Author.Rules.{rules}
use Rattle.oldest.proofs.shared.lower_closed.Goals as goal

pub returns-then-not-is_live : goal.returns-then-not-is_live
returns-then-not-is_live c = search (rules, closed_none)

pub returns-then-e-w : goal.returns-then-e-w
returns-then-e-w c = search (rules, closed_later)

pub returns : goal.returns
returns c = search (rules, closed_earlier)
