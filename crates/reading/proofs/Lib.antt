-- Laws of reading: the number in two stages, where a block's bytes stand, and that they are the block's.
pub mod ReadLaws
