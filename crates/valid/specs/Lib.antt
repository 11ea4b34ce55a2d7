-- What the contracts of the crate cite, beside the definitions of model and journal: a set lowered count by count.
pub mod Sets
pub mod Rounds
