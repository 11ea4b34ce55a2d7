-- `cut::check_cut` meets its contract: the length, then the phase.
use Rattle.cut.proofs.CutLaws.{cut_first}
use borrow.Author.Rules.{rules}
use Rattle.cut.proofs.check_cut.Goals as goal

pub returns : goal.returns
returns c = search (rules, cut_first)
