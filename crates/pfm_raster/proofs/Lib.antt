-- The laws of the samples of a raster.
pub mod Samples
