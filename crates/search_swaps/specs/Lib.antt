-- What this crate's contracts speak of.
pub mod Offers
