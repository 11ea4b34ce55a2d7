-- `commit::next_block::closed_number` meets its contract.
use Rattle.commit.proofs.StoreLaws.{number_one}
use Rattle.std.proofs.Common.{rules}
use Rattle.commit.proofs.next_block.closed_number.Goals as goal

pub returns : goal.returns
returns c = search (rules, number_one)
