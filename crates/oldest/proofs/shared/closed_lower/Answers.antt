-- `oldest::shared::closed_lower` meets its contract: the closed transaction stands at its place.
use borrow.Author.Rules.{rules}
use Rattle.oldest.proofs.SharedLaws.{closed_in, is_lower}
use Rattle.oldest.proofs.shared.closed_lower.Goals as goal

pub lower_closed-requires : goal.lower_closed-requires
lower_closed-requires c = search (rules, closed_in)

pub returns : goal.returns
returns c = search (rules, is_lower)
