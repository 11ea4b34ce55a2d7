-- WRITE in stages.
pub mod Writing
