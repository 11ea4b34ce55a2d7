-- `layout::commit_word` meets its contract: a word of the head, a number, or none.
use borrow.Author.Rules.{rules}
use Rattle.layout.proofs.Pairs.{commit_head_lem, commit_number, commit_rest}
use Rattle.layout.proofs.commit_block.commit_word.Goals as goal

pub returns-then-i-lt6 : goal.returns-then-i-lt6
returns-then-i-lt6 c = search (rules, commit_head_lem)

pub returns-then-i-ge14 : goal.returns-then-i-ge14
returns-then-i-ge14 c = search (rules, commit_rest)

pub returns : goal.returns
returns c = search (rules, commit_number)
