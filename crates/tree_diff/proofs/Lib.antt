pub mod Visible
pub mod Losing
pub mod Differs
pub mod Gone
pub mod Covering
pub mod Among
pub mod Sorting
pub mod Moving
