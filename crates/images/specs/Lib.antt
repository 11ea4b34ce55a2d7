-- What the contracts of the crate cite, beside the definitions of model and journal: images in a set of records.
pub mod Newest
