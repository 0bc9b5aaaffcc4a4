-- What the quick tests of runs show.
pub mod Run
