-- Why the claims are true, layer by layer, in the order of the argument in docs/PROOF.md.
pub mod Books
pub mod Blocks
pub mod Disk
pub mod Commands
pub mod Runs
