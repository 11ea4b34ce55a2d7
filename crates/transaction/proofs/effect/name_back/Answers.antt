-- `transaction::effect::name_back` meets its contract.
use Rattle.cells.proofs.FitsLaws.{frame_same}
use Rattle.rules.proofs.RuleLaws.{cond_not}
use Rattle.transaction.specs.Writing.{named_back}
use Rattle.transaction.proofs.EffectLaws.{place_of, back_done, frame_all}
use borrow.Author.Rules.{rules}
use Rattle.transaction.proofs.effect.name_back.Goals as goal

pub returns-then-not-is_named_back : goal.returns-then-not-is_named_back
unfolding named_back
returns-then-not-is_named_back c = (search (rules, cond_not), frame_same _ _ _)

pub raise_number-requires : goal.raise_number-requires
unfolding named_back
raise_number-requires c = search (rules, place_of)

pub returns : goal.returns
unfolding named_back
returns c = (search (rules, back_done), search (rules, frame_all))
