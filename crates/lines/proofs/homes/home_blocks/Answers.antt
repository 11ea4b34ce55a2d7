-- `lines::homes::home_blocks` meets its contract: the count, then those below it.
use Rattle.lines.proofs.PageLaws.{printed_lines}
use borrow.Author.Rules.{rules}
use Rattle.lines.proofs.homes.home_blocks.Goals as goal

pub returns : goal.returns
returns c = (λ m. search (rules, printed_lines, c.home_count-count.ensures m), search rules)
