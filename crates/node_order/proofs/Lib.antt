pub mod Members
pub mod Passing
pub mod Placing
pub mod Finding
