-- `journal::Disk::place_of` meets its contract: the descriptor's blocks are the transaction's.
use borrow.Author.Rules.{rules}
use Rattle.journal.proofs.Blocks.{place_is}
use Rattle.journal.proofs.Tested.{tested_bytes}
use Rattle.journal.proofs.disk.Disk.place_of.Goals as goal

pub place_in-requires : goal.place_in-requires
place_in-requires c = search (rules, tested_bytes)

pub returns : goal.returns
returns c = search (rules, place_is)
