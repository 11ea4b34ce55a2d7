-- What the contracts of a core's oldest transaction say beyond crate `model`.
pub mod Oldest
