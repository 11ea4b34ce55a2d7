-- `layout::flag_of` meets its contract: 1 where the image begins with the mark.
use borrow.Author.Rules.{rules}
use Rattle.model.specs.Layout.{flag_of}
use Rattle.layout.proofs.Tests.{tests}
use Rattle.layout.proofs.data.flag_of.Goals as goal

pub returns : goal.returns
unfolding flag_of
returns c = search (rules, tests)
