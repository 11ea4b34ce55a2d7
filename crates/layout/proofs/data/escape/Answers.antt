-- `layout::escape` meets its contract: each return is one case of `escaped`.
use borrow.Author.Rules.{rules}
use Rattle.layout.proofs.Blocks.{escaped_yes, escaped_no}
use Rattle.layout.proofs.data.escape.Goals as goal

pub returns-then-get_word : goal.returns-then-get_word
returns-then-get_word c = search (rules, escaped_yes)

pub returns-else-get_word : goal.returns-else-get_word
returns-else-get_word c = search (rules, escaped_no)
