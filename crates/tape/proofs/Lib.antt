-- Laws that the proofs of the tape program cite.
pub mod TapeLaws
