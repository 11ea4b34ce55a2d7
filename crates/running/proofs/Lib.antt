-- Laws of the running transaction: opened, a number raised, a block taken.
pub mod RunningLaws
