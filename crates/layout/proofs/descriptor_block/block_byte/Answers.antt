-- `layout::block_byte` meets its contract: below 256 the number is its last byte.
use borrow.Author.Rules.{rules}
use Rattle.layout.proofs.Narrow.{byte_is}
use Rattle.layout.proofs.descriptor_block.block_byte.Goals as goal

pub returns : goal.returns
returns c = search (rules, byte_is)
