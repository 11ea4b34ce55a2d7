-- Laws of the journal page, and those that the proofs of its code cite.
pub mod Numerals
pub mod PageLaws
pub mod Widths
pub mod LineLaws
pub mod FieldLaws
pub mod DiskLineLaws
pub mod PageTextLaws
