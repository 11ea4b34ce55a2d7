-- `transaction::effect::take_hold` meets its contract.
use Rattle.cells.proofs.FitsLaws.{frame_same}
use Rattle.rules.proofs.RuleLaws.{cond_not, cond_done}
use Rattle.transaction.specs.Writing.{held_by}
use Rattle.transaction.proofs.EffectLaws.{holder_all}
use borrow.Author.Rules.{rules}
use Rattle.transaction.proofs.effect.take_hold.Goals as goal

pub returns-then-not-takes_block : goal.returns-then-not-takes_block
unfolding held_by
returns-then-not-takes_block c = (search (rules, cond_not), frame_same _ _ _)

pub returns : goal.returns
unfolding held_by
returns c = (search (rules, cond_done), search (rules, holder_all))
