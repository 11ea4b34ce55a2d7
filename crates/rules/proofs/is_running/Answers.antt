-- `rules::is_running` meets its contract.
use Rattle.rules.proofs.RuleLaws.{is_running_in_no, is_running_in_yes}
use borrow.Author.Rules.{rules}
use Rattle.rules.proofs.is_running.Goals as goal

pub returns-then-not-has_running : goal.returns-then-not-has_running
returns-then-not-has_running c = search (rules, is_running_in_no)

pub returns : goal.returns
returns c = search (rules, is_running_in_yes)
