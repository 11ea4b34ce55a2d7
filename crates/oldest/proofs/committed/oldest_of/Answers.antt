-- `oldest::committed::oldest_of` meets its contract: none is counted, or the first record.
use borrow.Author.Rules.{rules}
use Rattle.oldest.proofs.CountLaws.{none_counted, first_counted}
use Rattle.oldest.proofs.committed.oldest_of.Goals as goal

pub returns-then-all-i-eq0 : goal.returns-then-all-i-eq0
returns-then-all-i-eq0 c = search (rules, none_counted)

pub returns : goal.returns
returns c = search (rules, first_counted)
