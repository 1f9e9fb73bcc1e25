pub mod Stories
pub mod Moments
pub mod Passes
pub mod Acceptance
pub mod Holding
pub mod Last
