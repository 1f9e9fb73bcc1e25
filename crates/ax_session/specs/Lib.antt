pub mod Command
pub mod Texts
pub mod Refusals
pub mod TopCall
pub mod Ends
