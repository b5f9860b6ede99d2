pub mod Occurring
pub mod Moving
pub mod Filled
