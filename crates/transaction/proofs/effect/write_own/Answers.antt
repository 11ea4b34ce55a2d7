-- `transaction::effect::write_own` meets its contract: the writer opened, what it names, its blocks.
use Rattle.cells.proofs.MeetLaws.{same_long}
use Rattle.transaction.proofs.EffectLaws.{place_of, count_room, own_written}
use borrow.Author.Rules.{rules}
use Rattle.transaction.proofs.effect.write_own.Goals as goal

pub open_at-requires : goal.open_at-requires
open_at-requires c = search (rules, place_of)

pub name_own-requires : goal.name_own-requires
name_own-requires c = search (rules, same_long, place_of)

pub block_own-requires : goal.block_own-requires
block_own-requires c = (search (rules, place_of), count_room _ c.args.f c.requires.0.core _ c.running_place-at.ensures _ c.open_at.ensures.0 _ c.name_own.ensures.0 c.requires.1)

pub returns : goal.returns
returns c = own_written _ c.args.f c.requires.0.core _ c.running_place-at.ensures _ c.open_at.ensures.0 _ c.name_own.ensures.0 _ c.block_own.ensures.0 c.open_at.ensures.1 c.name_own.ensures.1 c.block_own.ensures.1
