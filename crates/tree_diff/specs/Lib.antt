pub mod Alike
pub mod Lost
pub mod Candidates
