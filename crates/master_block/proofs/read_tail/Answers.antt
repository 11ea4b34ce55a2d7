-- `master_block::read_tail` meets its contract: a position below J fits a byte.
use borrow.Author.Rules.{rules}
use Rattle.master_block.proofs.Readers.{tail_none, tail_some, tail_small}
use Rattle.master_block.proofs.read_tail.Goals as goal

pub returns-then-get_word-c : goal.returns-then-get_word-c
returns-then-get_word-c c = search (rules, tail_none)

pub overflow_cast-result : goal.overflow_cast-result
overflow_cast-result c = search (rules, tail_small)

pub returns : goal.returns
returns c = search (rules, tail_some)
