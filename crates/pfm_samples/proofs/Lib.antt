-- The laws of samples and floats that the code rests on.
pub mod Exact
pub mod Rounded
pub mod Shades
pub mod ThreeKinds
