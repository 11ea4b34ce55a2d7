-- The unretired transactions as lists, as the ledger has them, and what each command makes of them.
pub mod Replaced
pub mod Orders
pub mod Figures
pub mod LedgerList
pub mod ListChanges
pub mod ListSteps
pub mod ListMembers
pub mod ListStamps
pub mod ListClose
pub mod ListFacts
