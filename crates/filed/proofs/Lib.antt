-- Laws that the proofs of this crate use.
pub mod Fronts
pub mod Reading
pub mod Whole
