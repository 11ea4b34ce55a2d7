-- `oldest::shared::block_at` meets its contract.
use Rattle.oldest.proofs.SharedLaws.{block_is, block_low, block_fits}
use borrow.Author.Rules.{rules}
use Rattle.oldest.proofs.shared.block_at.Goals as goal

pub block_byte-requires : goal.block_byte-requires
block_byte-requires c = search (rules, block_fits)

pub returns : goal.returns
returns c = (search (rules, block_is), search (rules, block_low))
