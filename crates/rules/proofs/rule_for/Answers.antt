-- `rules::rule_for` meets its contract: the cases in turn.
use Rattle.model.specs.Card.{same_name}
use Rattle.rules.proofs.RuleLaws.{rule_free, rule_own, rule_closed, rule_running}
use borrow.Author.Rules.{rules}
use Rattle.rules.proofs.rule_for.Goals as goal

pub returns-in_default : goal.returns-in_default
returns-in_default c = rule_free _ _ _ c.in_default.not-Some

pub returns-then-eq : goal.returns-then-eq
unfolding same_name
returns-then-eq c = search (rules, rule_own)

pub returns-then-not-is_running : goal.returns-then-not-is_running
unfolding same_name
returns-then-not-is_running c = search (rules, rule_closed)

pub returns : goal.returns
unfolding same_name
returns c = search (rules, rule_running)
