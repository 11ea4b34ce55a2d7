-- Laws that the proofs of FORMAT cite.
pub mod FormatLaws
