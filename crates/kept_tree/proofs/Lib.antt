pub mod Overlaying
