-- Layer B, the bytes as they stand. Shown here: what the disk holds by the ledger, as a relation of ledger, disk and card; that
-- the ledger stays in order; and that master, records, valid set and newest images are read from such a disk as the
-- ledger says. Demand 2 about journals is among them.
pub mod BlockBytes
pub mod Relation
pub mod LedgerStages
pub mod LedgerFresh
pub mod LedgerRanks
pub mod LedgerSteps
pub mod LedgerWrite
pub mod ReadMaster
pub mod RecordFormat
pub mod ReadRecords
pub mod ReadValid
pub mod ReadNewest
pub mod ReadCheckpoint
pub mod LedgerCheckpoint
pub mod JournalPast
