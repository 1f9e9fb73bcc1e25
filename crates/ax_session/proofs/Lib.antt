pub mod Complete
pub mod Lines
pub mod Rows
mod Pairing
mod Ending
mod Counts
