-- What the proofs of the functions cite.
pub mod InsertLaws
pub mod WorkLaws
pub mod TallyLaws
pub mod TakenLaws
pub mod UnretiredLaws
pub mod AnswerLaws
pub mod BufferLaws
