-- What the proofs of the two passes share.
pub mod Passes
