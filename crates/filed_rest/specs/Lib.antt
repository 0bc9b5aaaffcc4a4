-- What the contracts of this crate ask of a plate.
pub mod Measured
