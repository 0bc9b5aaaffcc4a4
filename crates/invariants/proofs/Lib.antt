-- The laws of what the code's buffers hold.
pub mod Window
pub mod Loop
pub mod Plate
pub mod Partners
pub mod Trials
pub mod Scanning
pub mod Reading
