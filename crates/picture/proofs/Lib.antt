-- What the proofs of the calls share.
pub mod Outcomes
