-- What the proof of the reader's words cites.
pub mod Items
