pub mod Faults
pub mod Sizes
pub mod Counts
pub mod Marks
pub mod Rules
pub mod Reader
pub mod Promise
