-- Laws that the proofs of CLOSE cite.
pub mod StateLaws
pub mod CloseLaws
