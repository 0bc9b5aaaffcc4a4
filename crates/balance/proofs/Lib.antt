-- The laws of the tone balance that the code rests on.
pub mod Division
