-- `lines::turn::run_command` meets its contract: the law of one command.
use Rattle.lines.proofs.TurnLaws.{turned, taken_within}
use borrow.Author.Rules.{rules}
use Rattle.lines.proofs.turn.run_command.Goals as goal

pub returns : goal.returns
returns c = (λ t q. search (rules, turned), search rules, search (rules, taken_within))
