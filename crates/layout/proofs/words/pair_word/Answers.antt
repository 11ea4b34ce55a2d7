-- `layout::pair_word` meets its contract: each return is one case of `pair_word`.
use borrow.Author.Rules.{rules}
use Rattle.layout.proofs.Pairs.{pair_first, pair_second}
use Rattle.layout.proofs.words.pair_word.Goals as goal

pub returns-then-k-eq0 : goal.returns-then-k-eq0
returns-then-k-eq0 c = search (rules, pair_first)

pub returns-else-k-eq0 : goal.returns-else-k-eq0
returns-else-k-eq0 c = search (rules, pair_second)
