-- Drive and ledger agree, from every start, through every command, barrier and cut; and at every such point a cut by any marks leaves a
-- card that is down by the lossy cut.
pub mod LosingUp
pub mod LosingDown
pub mod LostMaster
pub mod Related
pub mod Store
pub mod Checkpoint
pub mod Recover
pub mod Idle
pub mod Theorem
