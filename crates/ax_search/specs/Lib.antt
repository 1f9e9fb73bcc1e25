pub mod Keys
pub mod Folding
pub mod Searches
