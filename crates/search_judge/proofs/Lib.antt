-- What the judges of the later calls rest on.
pub mod Lists
