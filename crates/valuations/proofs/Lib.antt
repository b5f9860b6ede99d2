pub mod Radix
pub mod Told
pub mod Products
pub mod Turns
