-- `checkpoint::stores::stored_home` meets its contract.
use Rattle.oldest.proofs.SharedLaws.{read_shape}
use Rattle.checkpoint.proofs.StoreLaws.{home_stored}
use borrow.Author.Rules.{rules}
use Rattle.checkpoint.proofs.stores.stored_home.Goals as goal

pub put_home-requires : goal.put_home-requires
put_home-requires c = search (rules, read_shape)

pub returns : goal.returns
returns c = search (rules, home_stored)
