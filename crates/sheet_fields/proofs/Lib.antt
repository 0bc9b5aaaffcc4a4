-- What the proofs of the fields share.
pub mod Parts
