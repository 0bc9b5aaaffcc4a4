-- The two passes as the functions of this crate leave them.
pub mod Passes
