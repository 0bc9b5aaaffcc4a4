-- What the proofs of the numbers in decimal share.
pub mod Digits
