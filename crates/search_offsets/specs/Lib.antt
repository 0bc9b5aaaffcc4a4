-- The table of offsets as the code reads it.
pub mod Codes
