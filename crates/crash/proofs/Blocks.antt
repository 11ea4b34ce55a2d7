-- Layer A, one home block at a time. Shown here: what each command does to a block's history, that is its writes since the card
-- came up; that every command keeps the invariant of ledger and home area from one coming up to the next cut; and that
-- the images which recovery stores home are those of the kept writes, in the order in which they were issued.
pub mod History
pub mod Steps
pub mod Invariant
pub mod InvariantSteps
pub mod InvariantWrite
pub mod ClosedImages
pub mod CutImages
