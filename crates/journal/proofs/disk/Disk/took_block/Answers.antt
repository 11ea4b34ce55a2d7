-- `journal::Disk::took_block` meets its contract: it took a block that has a place.
use borrow.Author.Rules.{rules}
use Rattle.journal.proofs.Blocks.{took_is}
use Rattle.journal.proofs.disk.Disk.took_block.Goals as goal

pub returns : goal.returns
returns c = search (rules, took_is)
