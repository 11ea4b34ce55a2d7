-- `recovery::journals::read_disk` meets its contract.
use borrow.Author.Rules.{rules}
use Rattle.recovery.proofs.JournalLaws.{all_read}
use Rattle.recovery.proofs.MasterLaws.{master_part}
use Rattle.recovery.proofs.journals.read_disk.Goals as goal

pub read_tails-tails-requires : goal.read_tails-tails-requires
read_tails-tails-requires c = search (rules, master_part)

pub returns : goal.returns
returns c = search (rules, all_read)
