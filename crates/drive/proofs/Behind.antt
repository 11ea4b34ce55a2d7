-- What holds of the disk behind the last barrier (`Cached`), and that every command which is not missing a barrier keeps it.
pub mod Cached
pub mod Store
pub mod Home
pub mod Barrier
pub mod Retire
pub mod Frame
pub mod Idle
