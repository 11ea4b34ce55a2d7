-- `commit::next_block::write_last` meets its contract.
use Rattle.commit.proofs.StoreLaws.{last_written}
use Rattle.std.proofs.Common.{rules}
use Rattle.commit.proofs.next_block.write_last.Goals as goal

pub returns : goal.returns
returns c = search (rules, last_written)
