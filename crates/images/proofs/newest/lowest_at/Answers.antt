-- `images::lowest_at` meets its contract: the extent gives the descriptor and its blocks.
use borrow.Author.Rules.{rules}
use Rattle.images.proofs.Held.{extent_bytes, lower_by_lem}
use Rattle.images.proofs.newest.lowest_at.Goals as goal

pub lowest_in-requires : goal.lowest_in-requires
lowest_in-requires c = search (rules, extent_bytes)

pub returns : goal.returns
returns c = search (rules, lower_by_lem)
