-- What the contracts of RECOVER say beyond the crates `model` and `cells`.
pub mod Recovering
