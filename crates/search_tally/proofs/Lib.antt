-- Laws that the proofs of this crate share.
pub mod Weighing
pub mod Sums
