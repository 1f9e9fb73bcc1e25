pub mod Stops
pub mod Markers
pub mod Lines
pub mod Ranges
pub mod Answers
pub mod Ancestors
