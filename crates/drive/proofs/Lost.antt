-- The ledger without lost commits, and the disk without the marked stores. Shown here: the ledger stays in order and the histories of the
-- blocks stay good; a disk each of whose blocks is that of the disk behind the barrier or of the disk now holds what the ledger without
-- the lost commits says; and each block of the undone disk is as it was, or as a marked store found it.
pub mod Without
pub mod Renamed
pub mod Mixed
pub mod Undo
pub mod Unmarked
pub mod MadeOf
