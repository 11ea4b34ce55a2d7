-- `recovery::restoring::bring_up` meets its contract: the master in block 0, the card up.
use borrow.Author.Rules.{rules}
use Rattle.recovery.proofs.RecoverLaws.{all_emptied}
use Rattle.recovery.proofs.restoring.bring_up.Goals as goal

pub returns : goal.returns
returns c = search (rules, all_emptied)
