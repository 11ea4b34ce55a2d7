-- What the contracts of RETIRE say beyond crates `model` and `oldest`.
pub mod Released
