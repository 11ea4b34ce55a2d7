-- Laws of the records that were read, each once: how they are read, and what one gives.
pub mod OneRecord
pub mod Blocks
pub mod Tested
pub mod Whole
pub mod Ending
pub mod Reading
