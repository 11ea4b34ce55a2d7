-- `transaction::image::write_memory` meets its contract.
use Rattle.transaction.proofs.CommandLaws.{bytes_put}
use borrow.Author.Rules.{rules}
use Rattle.transaction.proofs.image.write_memory.Goals as goal

pub returns : goal.returns
returns c = search (rules, bytes_put)
