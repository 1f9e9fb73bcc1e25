pub mod Kids
pub mod Stamps
