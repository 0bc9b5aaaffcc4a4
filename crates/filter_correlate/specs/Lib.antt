-- The autocorrelation as the functions of this crate build it.
pub mod Scatter
