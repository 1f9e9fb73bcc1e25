pub mod Reached
pub mod Hosting
pub mod Everywhere
pub mod Remaking
pub mod Counting
pub mod Flushing
pub mod Turning
