-- Service book and ledger of the drive agree, through every command, barrier and cut; so for any marks recovery gives the area of the book
-- that loses those commits.
pub mod Kept
pub mod SameKept
pub mod Steps
pub mod Theorem
pub mod Agreement
