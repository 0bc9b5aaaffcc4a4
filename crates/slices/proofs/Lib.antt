-- What the proof of the sum of bytes cites, and those of callers that lend a front twice.
pub mod Bytes
pub mod Fronts
