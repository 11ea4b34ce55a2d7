-- `layout::has_head` meets its contract: each condition of `has_head` in turn.
use borrow.Author.Rules.{rules}
use Rattle.model.specs.Layout.{has_head}
use Rattle.layout.proofs.Tests.{tests}
use Rattle.layout.proofs.words.has_head.Goals as goal

pub returns-then-get_word-kind : goal.returns-then-get_word-kind
unfolding has_head
returns-then-get_word-kind c = search (rules, tests)

pub returns-else-get_word-kind : goal.returns-else-get_word-kind
unfolding has_head
returns-else-get_word-kind c = search (rules, tests)
