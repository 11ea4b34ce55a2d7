-- Laws that the proofs of STORE cite.
pub mod StateLaws
pub mod StoreLaws
