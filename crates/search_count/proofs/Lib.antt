-- Laws that the proofs of this crate share.
pub mod Marks
pub mod Columns
pub mod Trials
