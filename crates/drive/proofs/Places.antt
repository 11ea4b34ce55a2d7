-- Where the stores since the barrier lie (`BetweenDisks`): each is of a block that none since the barrier was of. So the blocks are apart,
-- and the images saved are those of the disk behind the barrier.
pub mod BetweenDisks
pub mod Store
pub mod Home
pub mod Retire
pub mod Idle
