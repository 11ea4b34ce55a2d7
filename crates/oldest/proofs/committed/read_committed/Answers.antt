-- `oldest::committed::read_committed` meets its contract: the journals from the card's tails, as many records as it counts.
use borrow.Author.Rules.{rules}
use Rattle.oldest.proofs.CardLaws.{shape_range}
use Rattle.oldest.proofs.CountLaws.{read_now}
use Rattle.oldest.proofs.committed.read_committed.Goals as goal

pub invariant_of-disk : goal.invariant_of-disk
invariant_of-disk c = search (rules, shape_range)

pub returns : goal.returns
returns c = search (rules, read_now)
