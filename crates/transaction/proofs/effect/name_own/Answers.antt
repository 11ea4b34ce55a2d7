-- `transaction::effect::name_own` meets its contract.
use Rattle.cells.proofs.FitsLaws.{frame_same}
use Rattle.rules.specs.Conditions.{named_by}
use Rattle.rules.proofs.RuleLaws.{cond_not, cond_done}
use borrow.Author.Rules.{rules}
use Rattle.transaction.proofs.effect.name_own.Goals as goal

pub returns-then-not-names_holder : goal.returns-then-not-names_holder
unfolding named_by
returns-then-not-names_holder c = (search (rules, cond_not), frame_same _ _ _)

pub returns : goal.returns
unfolding named_by
returns c = (search (rules, cond_done), search rules)
