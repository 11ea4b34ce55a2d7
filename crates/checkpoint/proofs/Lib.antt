-- Laws that the proofs of CHECKPOINT cite.
pub mod StoreLaws
pub mod CommandLaws
