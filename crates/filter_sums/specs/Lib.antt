-- What the sums over the cells of a plate come to.
pub mod Sums
