-- What a run adds, as the contract of the inner loop names it.
pub mod Run
