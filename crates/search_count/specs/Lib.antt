-- What the counting of swaps adds up.
pub mod Marks
