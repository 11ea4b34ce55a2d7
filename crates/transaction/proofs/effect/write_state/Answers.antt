-- `transaction::effect::write_state` meets its contract: the three steps make the card of the definition.
use Rattle.cells.proofs.FitsLaws.{frame_then}
use Rattle.cells.proofs.MeetLaws.{same_long}
use Rattle.transaction.proofs.EffectLaws.{block_fits, state_written}
use borrow.Author.Rules.{rules}
use Rattle.transaction.proofs.effect.write_state.Goals as goal

pub write_own-requires : goal.write_own-requires
write_own-requires c = search (rules, same_long, block_fits)

pub take_hold-requires : goal.take_hold-requires
take_hold-requires c = search (rules, same_long)

pub returns : goal.returns
returns c = (search (rules, state_written), search (rules, frame_then))
