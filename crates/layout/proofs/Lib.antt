-- Laws of loops, of tests that a call answered, of blocks as words, of a whole disk, each once.
pub mod Loops
pub mod Tests
pub mod Blocks
pub mod Pairs
pub mod Readers
pub mod Narrow
pub mod Counting
pub mod Ranges
pub mod Wholes
pub mod DiskLaws
