-- `valid::shrink_set` meets its contract: a round that strikes none leaves the set, and else fewer are left to shrink.
use borrow.Author.Rules.{rules}
use Rattle.valid.proofs.ShrinkLaws.{shrink_settled, round_falls, shrink_again, alone_again}
use Rattle.valid.proofs.shrinking.+shrink_set.Goals as goal

pub returns-then-left-before : goal.returns-then-left-before
returns-then-left-before t c = (search (rules, shrink_settled), search rules)

pub shrink_set-requires : goal.shrink_set-requires
shrink_set-requires t c = (rw (← c.decreases) (round_falls _ _ c.strike.ensures.1 c.strike.ensures.0 _ _ c.total_count-left.ensures c.requires c.if-left-before.false), search rules)

pub returns : goal.returns
returns t c = (search (rules, shrink_again), search (rules, alone_again))
