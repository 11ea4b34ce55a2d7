-- `rules::room::size_after` meets its contract.
use Rattle.rules.specs.Conditions.{size_after}
use Rattle.rules.proofs.RuleLaws.{cond_not, cond_done}
use borrow.Author.Rules.{rules}
use Rattle.rules.proofs.room.size_after.Goals as goal

pub returns-then-not-takes_block : goal.returns-then-not-takes_block
unfolding size_after
returns-then-not-takes_block c = (search (rules, cond_not), search rules)

pub returns : goal.returns
unfolding size_after
returns c = (search (rules, cond_done), search rules)
