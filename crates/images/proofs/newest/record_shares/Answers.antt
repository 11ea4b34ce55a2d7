-- `images::record_shares` meets its contract: the two cases of `shares_below`.
use borrow.Author.Rules.{rules}
use Rattle.journal.proofs.Tested.{tested_bytes}
use Rattle.images.proofs.Shared.{stamp_not, stamp_shares}
use Rattle.images.proofs.newest.record_shares.Goals as goal

pub returns-then-e-f : goal.returns-then-e-f
returns-then-e-f c = search (rules, stamp_not)

pub share_in-requires : goal.share_in-requires
share_in-requires c = search (rules, tested_bytes)

pub returns : goal.returns
returns c = search (rules, stamp_shares)
