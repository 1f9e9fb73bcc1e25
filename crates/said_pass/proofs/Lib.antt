pub mod Backward
pub mod Gathering
pub mod Speaking
pub mod Referring
mod Calling
pub mod Same
