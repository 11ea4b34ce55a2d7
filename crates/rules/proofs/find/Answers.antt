-- `rules::find` meets its contract.
use Rattle.rules.proofs.RuleLaws.{rule_met_found}
use borrow.Author.Rules.{rules}
use Rattle.rules.proofs.find.Goals as goal

pub returns : goal.returns
returns c = (search (rules, rule_met_found), search rules)
