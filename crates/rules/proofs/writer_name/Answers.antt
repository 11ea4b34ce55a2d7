-- `rules::writer_name` meets its contract.
use Rattle.rules.proofs.RuleLaws.{name_met}
use borrow.Author.Rules.{rules}
use Rattle.rules.proofs.writer_name.Goals as goal

pub returns : goal.returns
returns c = (search (rules, name_met), search rules)
