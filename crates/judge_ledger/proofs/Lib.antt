-- What the judges of 20 and 21 rest on.
pub mod Tests
