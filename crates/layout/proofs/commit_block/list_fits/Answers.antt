-- `layout::list_fits` meets its contract: more names than a list may have, or each looked at.
use borrow.Author.Rules.{rules}
use Rattle.layout.proofs.Readers.{list_long, list_short}
use Rattle.layout.proofs.commit_block.list_fits.Goals as goal

pub returns-then-n-le-MAX_NAMES : goal.returns-then-n-le-MAX_NAMES
returns-then-n-le-MAX_NAMES c = search (rules, list_short)

pub returns-else-n-le-MAX_NAMES : goal.returns-else-n-le-MAX_NAMES
returns-else-n-le-MAX_NAMES c = search (rules, list_long)
