-- Laws of a core's oldest transaction that its proofs, and those of CHECKPOINT and RETIRE, cite.
pub mod CardLaws
pub mod SharedLaws
pub mod CountLaws
pub mod OldestLaws
pub mod AskedLaws
