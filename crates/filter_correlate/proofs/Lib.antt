-- What the proofs of the autocorrelation share.
pub mod Scatter
