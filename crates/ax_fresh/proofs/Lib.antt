pub mod Put
mod Gathered
pub mod Above
pub mod Sameness
