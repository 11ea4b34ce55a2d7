-- `checkpoint::stores::put_home` meets its contract.
use Rattle.oldest.proofs.SharedLaws.{is_sized}
use Rattle.checkpoint.proofs.StoreLaws.{home_put}
use borrow.Author.Rules.{rules}
use Rattle.checkpoint.proofs.stores.put_home.Goals as goal

pub image_at-at-requires : goal.image_at-at-requires
image_at-at-requires c = search (rules, is_sized)

pub returns : goal.returns
returns c = search (rules, home_put)
