-- `images::lower` meets its contract: each return is one case of `lower_of`.
use borrow.Author.Rules.{rules}
use Rattle.images.proofs.Held.{lower_less, lower_min}
use Rattle.images.proofs.newest.lower.Goals as goal

pub returns-then-x-from : goal.returns-then-x-from
returns-then-x-from c = search (rules, lower_less)

pub returns : goal.returns
returns c = search (rules, lower_min)
