-- What the judge of a picture's file is handed.
pub mod Found
