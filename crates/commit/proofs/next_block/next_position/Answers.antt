-- `commit::next_block::next_position` meets its contract: tail, records and stores done.
use Rattle.commit.proofs.StoreLaws.{position_is}
use Rattle.std.proofs.Common.{rules}
use Rattle.commit.proofs.next_block.next_position.Goals as goal

pub returns : goal.returns
returns c = search (rules, position_is)
