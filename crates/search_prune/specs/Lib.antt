-- What the quick test rests on and shows.
pub mod Grid
