pub mod LiveTrees
pub mod Living
pub mod Hosts
pub mod Remaking
