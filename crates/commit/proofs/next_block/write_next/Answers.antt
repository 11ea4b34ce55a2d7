-- `commit::next_block::write_next` meets its contract: descriptor, copy or commit.
use Rattle.commit.proofs.StoreLaws.{next_descriptor, next_data, next_commit}
use Rattle.std.proofs.Common.{rules}
use Rattle.commit.proofs.next_block.write_next.Goals as goal

pub returns-then-done-eq0 : goal.returns-then-done-eq0
returns-then-done-eq0 c = search (rules, next_descriptor)

pub returns-then-done-block_count : goal.returns-then-done-block_count
returns-then-done-block_count c = search (rules, next_data)

pub returns : goal.returns
returns c = search (rules, next_commit)
