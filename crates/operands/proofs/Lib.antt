-- Laws that the proofs of the tape reader cite.
pub mod OffsetLaws
pub mod DecodingLaws
