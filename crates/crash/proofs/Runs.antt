-- Layer C, along a tape. Shown here: what holds at every point of a run, from one coming up to the next; what the ledger has where CLOSE,
-- STORE, CHECKPOINT or RETIRE is not refused, and that a CHECKPOINT or RETIRE of the lowest stamp is not; the theorem, the claim and the
-- demands for every tape with cuts anywhere; what a cut brings back at each point; and that the report task's WRITE keeps to its limit.
-- Runs are computed as examples.
pub mod CutTargets
pub mod RunClaims
pub mod UpSteps
pub mod Unrefused
pub mod LowestCheckpoint
pub mod Theorem
pub mod BroughtBack
pub mod ReportLimited
pub mod Examples
