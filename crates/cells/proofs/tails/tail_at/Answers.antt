-- `cells::tails::tail_at` meets its contract.
use Rattle.cells.proofs.TailLaws.{tail_read}
use borrow.Author.Rules.{rules}
use Rattle.cells.proofs.tails.tail_at.Goals as goal

pub returns : goal.returns
returns c = search (rules, tail_read)
