-- What the proofs of the raster share.
pub mod Bytes
