-- `oldest::shared::shares_lower` meets its contract: a committed one, or a closed one.
use Rattle.oldest.proofs.SharedLaws.{is_sized, is_tested, lower_committed, lower_closed_lem}
use borrow.Author.Rules.{rules}
use Rattle.oldest.proofs.shared.shares_lower.Goals as goal

pub shares_lower-requires : goal.shares_lower-requires
shares_lower-requires c = search (rules, is_sized, is_tested)

pub returns-then-shares_lower : goal.returns-then-shares_lower
returns-then-shares_lower c = search (rules, lower_committed)

pub returns : goal.returns
returns c = search (rules, lower_closed_lem)
