-- The service book and the ledger by themselves. Shown here: what each command does to an entry, and that it leaves the others;
-- who holds a block; that a name stands once in a list; that no command changes the rule; that the kept set is the largest one that
-- is closed under dependencies, and in sequence a beginning of each core's run; and that service book and ledger agree, though
-- each numbers the transactions in its own way.
pub mod BookExamples
pub mod Tests
pub mod BookEntries
pub mod BookSteps
pub mod Required
pub mod Largest
pub mod BookOrder
pub mod Rename
pub mod Agreement
pub mod NamesOnce
pub mod Sequence
