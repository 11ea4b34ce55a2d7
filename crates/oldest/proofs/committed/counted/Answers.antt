-- `oldest::committed::counted` meets its contract: the one that is closed does not count.
use Rattle.oldest.proofs.CountLaws.{count_none, count_closed, count_open}
use borrow.Author.Rules.{rules}
use Rattle.oldest.proofs.committed.counted.Goals as goal

pub returns-then-next-t : goal.returns-then-next-t
returns-then-next-t c = search (rules, count_none)

pub returns-then-is_live : goal.returns-then-is_live
returns-then-is_live c = search (rules, count_closed)

pub returns : goal.returns
returns c = search (rules, count_open)
