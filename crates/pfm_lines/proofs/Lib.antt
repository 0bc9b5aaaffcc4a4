-- The laws of the lines that the code rests on.
pub mod Lines
