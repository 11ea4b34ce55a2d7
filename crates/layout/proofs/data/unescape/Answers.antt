-- `layout::unescape` meets its contract: each return is one case of `unescaped`.
use borrow.Author.Rules.{rules}
use Rattle.model.specs.Layout.{unescaped}
use Rattle.layout.proofs.Tests.{tests}
use Rattle.layout.proofs.data.unescape.Goals as goal

pub returns-then-flag-eq1 : goal.returns-then-flag-eq1
unfolding unescaped
returns-then-flag-eq1 c = search (rules, tests)

pub returns-else-flag-eq1 : goal.returns-else-flag-eq1
unfolding unescaped
returns-else-flag-eq1 c = search (rules, tests)
