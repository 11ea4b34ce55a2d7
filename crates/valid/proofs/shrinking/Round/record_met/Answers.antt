-- `valid::Round::record_met` meets its contract: the commit is the one behind the blocks that the record took.
use borrow.Author.Rules.{rules}
use Rattle.valid.proofs.Names.{record_met_is}
use Rattle.valid.proofs.shrinking.Round.record_met.Goals as goal

pub returns : goal.returns
returns c = search (rules, record_met_is)
