-- The parts of CLOSE's change of a core.
pub mod Frozen
