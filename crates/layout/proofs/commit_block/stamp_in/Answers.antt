-- `layout::stamp_in` meets its contract: the two words of the stamp.
use borrow.Author.Rules.{rules}
use Rattle.layout.proofs.Readers.{stamp_is}
use Rattle.layout.proofs.commit_block.stamp_in.Goals as goal

pub returns : goal.returns
returns c = search (rules, stamp_is)
