-- What the proofs of the lines of a sheet share.
pub mod Parts
