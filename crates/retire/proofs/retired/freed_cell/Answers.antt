-- `retire::retired::freed_cell` meets its contract: no holder, the one retired, another one.
use Rattle.retire.proofs.RetireLaws.{freed_none, freed_own, freed_other}
use Rattle.model.specs.Card.{same_name}
use borrow.Author.Rules.{rules}
use Rattle.retire.proofs.retired.freed_cell.Goals as goal

pub returns-then-x-eq0 : goal.returns-then-x-eq0
returns-then-x-eq0 c = search (rules, freed_none)

pub returns-then-eq : goal.returns-then-eq
unfolding same_name
returns-then-eq c = search (rules, freed_own)

pub returns : goal.returns
unfolding same_name
returns c = search (rules, freed_other)
