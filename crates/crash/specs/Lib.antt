-- The service book, the ledger and the claims about whole tapes. All that a reader must believe of them stands here.
pub mod Book
pub mod Service
pub mod Ledger
pub mod Claims
pub mod Spans
pub mod ReportLimit
