-- `transaction::effect::block_own` meets its contract.
use Rattle.cells.proofs.FitsLaws.{frame_same}
use Rattle.rules.specs.Conditions.{taken_by}
use Rattle.rules.proofs.RuleLaws.{cond_not, cond_done}
use Rattle.transaction.proofs.EffectLaws.{block_room}
use borrow.Author.Rules.{rules}
use Rattle.transaction.proofs.effect.block_own.Goals as goal

pub returns-then-not-takes_block : goal.returns-then-not-takes_block
unfolding taken_by
returns-then-not-takes_block c = (search (rules, cond_not), frame_same _ _ _)

pub add_block-requires : goal.add_block-requires
unfolding taken_by
add_block-requires c = search (rules, block_room)

pub returns : goal.returns
unfolding taken_by
returns c = (search (rules, cond_done), search rules)
