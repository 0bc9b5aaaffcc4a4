-- What the code's buffers hold of the definitions: the words of inner contracts. Nothing of it has to be believed, since
-- no public contract and no promise cites it.
pub mod Window
pub mod Plate
pub mod Partners
pub mod Trials
pub mod Reading
pub mod Pictures
