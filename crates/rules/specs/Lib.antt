-- What a WRITE finds, and whether there is room for it.
pub mod Conditions
