-- `cells::holders::holder_at` meets its contract.
use Rattle.cells.proofs.ReadLaws.{holder_none, holder_some, low_core}
use borrow.Author.Rules.{rules}
use Rattle.cells.proofs.holders.holder_at.Goals as goal

pub returns-then-n-eq0 : goal.returns-then-n-eq0
returns-then-n-eq0 c = (search (rules, holder_none), search rules)

pub returns : goal.returns
returns c = (search (rules, holder_some), search (rules, low_core))
