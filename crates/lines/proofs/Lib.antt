-- Laws that the proofs of the lines cite.
pub mod TurnLaws
pub mod PageLaws
