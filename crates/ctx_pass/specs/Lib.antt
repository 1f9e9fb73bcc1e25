pub mod Marks
pub mod Contexts
