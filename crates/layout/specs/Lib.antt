-- What the contracts of functions within the crate cite, beside the definitions of model: every record block as words.
pub mod Loops
pub mod Words
pub mod Distinct
pub mod Narrow
pub mod Named
pub mod Kinds
