-- Laws that the proofs of RETIRE cite.
pub mod RetireLaws
pub mod MasterLaws
pub mod CommandLaws
