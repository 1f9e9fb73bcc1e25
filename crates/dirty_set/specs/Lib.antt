pub mod Reach
pub mod Marking
pub mod Alike
pub mod Covers
pub mod NodeSets
pub mod Near
pub mod Reaching
