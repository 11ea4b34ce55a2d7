-- `images::later_of` meets its contract: each return is one case of `later_of`.
use borrow.Author.Rules.{rules}
use Rattle.journal.proofs.Blocks.{took_within}
use Rattle.images.proofs.Images.{later_none, later_less, later_some}
use Rattle.images.proofs.newest.later_of.Goals as goal

pub returns-in_default : goal.returns-in_default
returns-in_default c = (search (rules, later_none), search rules)

pub returns-then-e-best : goal.returns-then-e-best
returns-then-e-best c = (search (rules, later_less), search rules)

pub image_at-requires : goal.image_at-requires
image_at-requires c = search (rules, took_within)

pub returns : goal.returns
returns c = (search (rules, later_some), search rules)
