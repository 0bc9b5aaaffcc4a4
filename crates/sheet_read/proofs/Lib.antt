-- What the proofs of the blocks share.
pub mod Blocks
