-- `oldest::committed::counts` meets its contract. Invariant: the first c counts are made.
use Rattle.layout.proofs.Loops.{filled_none}
use Rattle.oldest.proofs.CountLaws.{few_cores, count_made, all_counts}
use borrow.Author.Rules.{rules}
use Rattle.oldest.proofs.committed.counts.Goals as goal

pub loop-c-init : goal.loop-c-init
loop-c-init c = (search (rules, few_cores), filled_none _ _ _ (search rules))

pub loop-c-preserved : goal.loop-c-preserved
loop-c-preserved c = (search rules, search (rules, count_made))

pub returns : goal.returns
returns c = search (rules, all_counts)
