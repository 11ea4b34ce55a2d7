-- What the contracts of the lines say.
pub mod Lines
