-- What the reader of a header shows and answers.
pub mod Read
