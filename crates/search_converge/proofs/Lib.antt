-- Laws that the proof of this crate uses.
pub mod Turns
