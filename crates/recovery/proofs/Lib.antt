-- Laws that the proofs of RECOVER cite.
pub mod MasterLaws
pub mod JournalLaws
pub mod RecoverLaws
