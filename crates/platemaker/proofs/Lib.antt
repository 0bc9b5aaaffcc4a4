-- The laws that the proofs of the crate's functions cite.
mod Laid
mod Ledgers
