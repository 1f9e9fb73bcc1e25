pub mod Gathering
pub mod Contents
