-- `commit::next_block::write_copy` meets its contract: escaped as the journal holds it.
use Rattle.commit.proofs.StoreLaws.{copy_written}
use Rattle.std.proofs.Common.{rules}
use Rattle.commit.proofs.next_block.write_copy.Goals as goal

pub returns : goal.returns
returns c = search (rules, copy_written)
