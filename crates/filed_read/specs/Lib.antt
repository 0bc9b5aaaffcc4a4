-- A definition that the contracts of this crate use.
pub mod End
