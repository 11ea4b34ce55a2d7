-- What the contracts of the tape reader say beyond crate `model`.
pub mod Decoding
