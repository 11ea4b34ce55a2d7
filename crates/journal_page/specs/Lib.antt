-- What the contracts of the journal page say beyond crate `model`: fields as the code holds them.
pub mod Fields
