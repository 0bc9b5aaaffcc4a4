-- Finite sums, the quadratic form of a kernel, and a grid that is moved.
pub mod Sum
pub mod Quadratic
pub mod Moved
