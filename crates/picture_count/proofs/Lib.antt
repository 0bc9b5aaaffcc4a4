-- What the proofs of counting share.
pub mod Counts
