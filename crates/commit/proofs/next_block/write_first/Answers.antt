-- `commit::next_block::write_first` meets its contract: the first of the eight flags belong to the blocks taken.
use Rattle.commit.proofs.StoreLaws.{first_written}
use Rattle.std.proofs.Common.{rules}
use Rattle.commit.proofs.next_block.write_first.Goals as goal

pub returns : goal.returns
returns c = search (rules, first_written)
