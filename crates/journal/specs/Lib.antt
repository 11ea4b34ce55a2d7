-- What the contracts of the crate cite, beside the definitions of model: a record, a step of reading, and the records of all journals.
pub mod Record
pub mod Records
pub mod Walk
