-- What the contracts of the inner functions cite.
pub mod Storable
