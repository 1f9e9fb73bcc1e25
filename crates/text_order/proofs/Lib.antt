pub mod Filters
pub mod Laters
pub mod Counting
