-- Laws that the proofs of this crate share.
pub mod Partner
pub mod Clear
pub mod Spans
