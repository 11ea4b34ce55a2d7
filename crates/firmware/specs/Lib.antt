-- What the contracts of the library's entries say beyond crates `model`, `cells`, `command`, `planner` and `crash`.
pub mod Session
pub mod Plans
