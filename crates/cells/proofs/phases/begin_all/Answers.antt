-- `cells::phases::begin_all` meets its contract: one core after another.
use Rattle.cells.proofs.Parts.{facts}
use Rattle.cells.proofs.PhaseLaws.{begins_none, begins_more, begins_all}
use borrow.Author.Rules.{rules}
use Rattle.cells.proofs.phases.begin_all.Goals as goal

pub loop-c-init : goal.loop-c-init
loop-c-init c = search (facts, begins_none)

pub bounds-tails-c : goal.bounds-tails-c
bounds-tails-c c = search facts

pub loop-c-preserved : goal.loop-c-preserved
loop-c-preserved c = begins_more _ _ _ _ c.loop-c.invariant _ _ _ c.loop-c-test.true c.put_numbers.ensures.0 c.put_numbers.ensures.1 c.put_tail.ensures.0 c.put_tail.ensures.1

pub returns : goal.returns
returns c = (search (rules, begins_all), search rules)
