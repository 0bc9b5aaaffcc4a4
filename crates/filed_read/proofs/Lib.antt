-- What the proofs of the filed sheet share.
pub mod Figures
