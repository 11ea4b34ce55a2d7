-- `journal::Disk::new` meets its contract: the same bytes.
use borrow.Author.Rules.{rules}
use Rattle.journal.proofs.Whole.{whole_is}
use Rattle.journal.proofs.disk.Disk.new.Goals as goal

pub returns : goal.returns
returns c = (search rules, whole_is _ _ _ _ c.try_into.ensures.1 _ c.unwrap-bytes.ensures)
