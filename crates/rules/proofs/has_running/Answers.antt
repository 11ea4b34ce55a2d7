-- `rules::has_running` meets its contract.
use Rattle.cells.proofs.ReadLaws.{running_live}
use borrow.Author.Rules.{rules}
use Rattle.rules.proofs.has_running.Goals as goal

pub returns : goal.returns
returns c = search (rules, running_live)
