-- Where the bytes of a block stand that a reader asks for.
pub mod Part
