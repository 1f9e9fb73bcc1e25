mod Rows
pub mod Openings
pub mod Added
pub mod Joining
pub mod Putting
pub mod Again
pub mod Apart
pub mod Between
mod Turns
mod NamedBy
pub mod Speaking
mod Above
pub mod Known
pub mod Referring
pub mod Gathered
mod Firsts
pub mod Showing
pub mod Calling
pub mod Evenly
