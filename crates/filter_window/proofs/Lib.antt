-- What the proofs of the window update share: a run entry by entry, and a window row by row.
pub mod Run
pub mod Rows
