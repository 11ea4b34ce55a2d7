-- Condition 40 from the blocks stored since the barrier alone is that of the ledger; and what its third clause says in the paper's words.
pub mod ReadBehind
pub mod Places
pub mod Same
pub mod Law
