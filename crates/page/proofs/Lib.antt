-- Pages and ends of journals that are computed.
pub mod Cases
pub mod EndCases
pub mod WideBlocks
pub mod WrongReaders
