-- Laws of the master: of its words, of its store, and of what its readers answer.
pub mod Writers
pub mod Readers
