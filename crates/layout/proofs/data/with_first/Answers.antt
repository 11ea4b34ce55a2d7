-- `layout::with_first` meets its contract: the first four bytes replaced are those bytes and the rest.
use borrow.Author.Rules.{rules}
use Rattle.layout.proofs.Blocks.{first_put}
use Rattle.layout.proofs.data.with_first.Goals as goal

pub returns : goal.returns
returns c = search (rules, first_put)
