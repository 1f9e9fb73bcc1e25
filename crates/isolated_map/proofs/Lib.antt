pub mod Orders
pub mod Copies
pub mod LoneRoot
