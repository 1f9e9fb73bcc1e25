mod Shown
pub mod Places
pub mod Noticing
