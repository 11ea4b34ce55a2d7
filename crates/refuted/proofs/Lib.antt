-- Why the wrong cards and planners fail, and computed runs of the right one that need the same tests.
pub mod Checks
pub mod Parts
pub mod Tapes
pub mod PaperCards
pub mod Refusals
pub mod OtherCards
pub mod OrderCards
pub mod NumberCards
pub mod LongLists
pub mod CapMissing
pub mod Committed33
pub mod PlanChecks
pub mod Planners
pub mod PlanExamples
pub mod RetireCards
pub mod ReportCards
