-- What the contract of a counted command says, and the count put.
pub mod Counting
pub mod Counted
