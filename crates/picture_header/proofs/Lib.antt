-- What the proofs of the header's reader share.
pub mod Glyphs
pub mod Parts
