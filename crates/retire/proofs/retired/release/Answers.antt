-- `retire::retired::release` meets its contract. Invariant: the first b holders are done.
use Rattle.retire.proofs.RetireLaws.{release_start, release_in, release_more, release_end}
use borrow.Author.Rules.{rules}
use Rattle.retire.proofs.retired.release.Goals as goal

pub loop-b-init : goal.loop-b-init
loop-b-init c = release_start _ _

pub bounds-w-b : goal.bounds-w-b
bounds-w-b c = search (rules, release_in)

pub bounds-w-b-in-loop-b : goal.bounds-w-b-in-loop-b
bounds-w-b-in-loop-b c = search (rules, release_in)

pub loop-b-preserved : goal.loop-b-preserved
loop-b-preserved c = search (rules, release_more)

pub returns : goal.returns
returns c = (search (rules, release_end), search rules)
