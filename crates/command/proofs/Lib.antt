-- Laws that the proofs of one command at an offset cite.
pub mod TapeLaws
pub mod CountLaws
