-- `retire::retired::retire_card` meets its contract: the tail, the core, the holders.
use Rattle.retire.proofs.RetireLaws.{retired_card_lem, retired_frame}
use Rattle.cells.proofs.MeetLaws.{same_long}
use borrow.Author.Rules.{rules}
use Rattle.retire.proofs.retired.retire_card.Goals as goal

pub retire_core-requires : goal.retire_core-requires
retire_core-requires c = search (rules, same_long)

pub release-requires : goal.release-requires
release-requires c = search (rules, same_long)

pub returns : goal.returns
returns c = (search (rules, retired_card_lem), search (rules, retired_frame))
