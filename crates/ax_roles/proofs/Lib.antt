mod Named
pub mod Parts
