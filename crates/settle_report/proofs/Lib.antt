-- The laws that the proofs of the crate's functions cite.
pub mod Lengths
