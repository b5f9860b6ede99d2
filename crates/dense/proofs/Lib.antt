pub mod Bounded
pub mod Spelled
pub mod Advancing
pub mod Filling
pub mod Moving
pub mod Occurring
