-- Drives with a cache of their own, paper 02, (m): what a cut leaves that loses stores since the last barrier, and where a barrier is
-- missing.
pub mod LostCommits
pub mod Since
pub mod Undone
pub mod Drive
pub mod BarrierPlaces
pub mod DriveLedger
pub mod DriveBook
