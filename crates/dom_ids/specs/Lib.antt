pub mod References
pub mod Index
pub mod Changing
pub mod Hanging
pub mod Ordering
pub mod Settling
