-- `layout::number_fits` meets its contract: a core that the disk has, or no number.
use borrow.Author.Rules.{rules}
use Rattle.layout.proofs.Readers.{number_here, number_none}
use Rattle.layout.proofs.commit_block.number_fits.Goals as goal

pub returns-then-c-s : goal.returns-then-c-s
returns-then-c-s c = search (rules, number_here)

pub returns-else-c-s : goal.returns-else-c-s
returns-else-c-s c = search (rules, number_none)
